-- `traces::playing::play` meets its contract: the loop holds the device after i events by its parts, their answers stand before the untouched rest,
-- Assumes nothing.
use Prim.Native.Nat.{ℕ, ◌*◌}
use mathlib.Core.Path.{◌≡◌, refl, ap, ◌∙◌}
use mathlib.Core.List.{◌++◌}
use native.Mathlib.Omega.{arith}
use lib.ListN.{drop}
use Rattle.arbiter.specs.Steps.{run_from, answers_from}
use Rattle.arbiter.specs.Traces.{event_bytes, raws_in, bytes_of}
use Rattle.arbiter.specs.declared.Answer.{Answer}
use mathlib.Core.Path.{sym}
use borrow.Author.Tests.{eq-eqb, ne_eqb}
use lib.ListN.{set}
use Rattle.arbiter.specs.Effects.{was_reset}
use Rattle.step.specs.Carried.{stepped_with, kept}
use Rattle.traces.proofs.TwoSides.{held}
use Rattle.traces.proofs.Asked.{first_holds}
use Rattle.traces.proofs.Asked.{reads_lines, reads_pulse, reads_reset, reads_call}
use Rattle.traces.proofs.Arms.{pulse_refused, lines_arm, call_arm, soft-arm, reset_arm}
use Rattle.traces.proofs.Turn.{turned, stepped_on, two_on}
use Prim.Native.Nat.{◌-◌}
use Prim.Native.Nat.{◌%◌}
use mathlib.Core.Path.{ap₂}
use mathlib.Core.Bool.{Bool, ◌&&◌}
use Rattle.arbiter.specs.Registers.{own_written, mail_written}
use Rattle.arbiter.specs.Effects.{write_risen}
use Rattle.traces.proofs.TwoSides.{side_at}
use Rattle.traces.proofs.Asked.{reads_command, reads_write, reads_read, reads_stop, reads_pair}
use Rattle.traces.proofs.Arms.{command-arm, stop_refused, stop-arm, write-refused, write-arm, read-emptying, read-arm, pair_refused, pair_arm}
use Prim.Native.Nat.{◌+◌}
use mathlib.Core.Bool.{false}
use Rattle.traces.proofs.Asked.{stop_told, claim_told}
use Rattle.traces.proofs.Arms.{grant-room, grant-arm, claim-arm}
use Prim.Native.Nat.{◌≤◌}
use Rattle.arbiter.specs.Steps.{step}
use Rattle.arbiter.specs.declared.Device.{Device}
use Rattle.traces.proofs.Batch.{least_both, some_one}
use Rattle.traces.proofs.Arms.{unread_arm}
use Rattle.traces.proofs.Turn.{ticked_on}
use Rattle.traces.proofs.playing.play.Goals as goal

pub loop-i-init : goal.loop-i-init
unfolding run_from answers_from raws_in
loop-i-init c =
    let shown = c.answered-first.ensures in
    (refl, (omega arith, refl, refl, refl, c.requires.2, ap (λ (a : Answer). a.owner) shown, ap (λ (a : Answer). a.lines) shown))

pub returns : goal.returns
returns c =
    let given = c.args in
    let known = c.loop-i.invariant.1 in
    let e : c.loop-i.i ≡ given.n = omega (arith, known.0, c.before) in (
      c.device_of-2.ensures ∙ known.2 ∙ ap (λ (k : ℕ). run_from given.from (raws_in k given.events.now)) e,
      known.3 ∙ ap (λ (k : ℕ). bytes_of (answers_from given.from (raws_in k given.events.now)) ++ drop (event_bytes * k) given.answers.now) e,
    )

pub loop-i-preserved-then-ends_no_grant : goal.loop-i-preserved-then-ends_no_grant
loop-i-preserved-then-ends_no_grant c =
    let at = c.loop-i in
    let given = c.args in
    let kind = given.from.kind in
    let two = at.invariant.0 in
    let known = at.invariant.1 in
    let event = c.event_at-r in
    let r = event.result in
    let within = c.loop-i-test.true in
    let is = c.in-5.is in
    let settled = known.4 in
    let fits = sym c.fits_levels.ensures ∙ c.if-fits_levels.true in
    let after = c.bus_lined-after in
    let keeps = sym c.ends_no_grant.ensures ∙ c.if-ends_no_grant.true in
    let fell = c.intin_fell-fell in
    let first = c.fallen_side-e0 in
    let second = c.fallen_side-e1 in
    let lines = c.lines_shown-lines-then-ends_no_grant in
    let arm = lines_arm kind at.sides at.bus at.arb two at.owner at.lines known.5 known.6 r (reads_lines r is fits) settled
    after.result after.ensures keeps fell.result fell.ensures first.result second.result lines.result first.ensures second.ensures
    lines.ensures in (
      two_on (set at.sides _ _) _ _ (two_on at.sides _ _ two),
      turned given.events.now given.answers.now given.n given.from at.answers at.owner at.lines
          (held kind at.sides at.bus at.arb) at.i known within c.requires.0 c.requires.1
          (stepped_with (held kind (set (set at.sides 0 first.result) 1 second.result) after.result at.arb)
          (kept 0 0 at.owner lines.result)) r event.ensures (arm) _ _ c.put_answer-then-ends_no_grant.auto.answers
          c.put_answer-then-ends_no_grant.ensures c.answer_kept-then-ends_no_grant.ensures,
    )

pub loop-i-preserved-else-is_initialising : goal.loop-i-preserved-else-is_initialising
loop-i-preserved-else-is_initialising c =
    let at = c.loop-i in
    let given = c.args in
    let kind = given.from.kind in
    let two = at.invariant.0 in
    let known = at.invariant.1 in
    let event = c.event_at-r in
    let r = event.result in
    let within = c.loop-i-test.true in
    let is = c.in-7.is in
    let fits = sym c.fits_one-in-7.ensures
    ∙ c.if-fits_one-3.true in
    let closed = sym c.is_initialising.ensures ∙ c.if-is_initialising.false in
    let arm = pulse_refused kind at.sides at.bus at.arb two at.owner at.lines known.5 known.6 r (reads_pulse r is fits) closed in (
      two,
      turned given.events.now given.answers.now given.n given.from at.answers at.owner at.lines
          (held kind at.sides at.bus at.arb) at.i known within c.requires.0 c.requires.1
          (stepped_with (held kind at.sides at.bus at.arb) (kept 4 0 at.owner at.lines)) r event.ensures (arm) _ _
          c.put_answer-else-is_initialising.auto.answers c.put_answer-else-is_initialising.ensures c.answer_kept-else-is_initialising.ensures,
    )

pub loop-i-preserved-then-fits_none : goal.loop-i-preserved-then-fits_none
loop-i-preserved-then-fits_none c =
    let at = c.loop-i in
    let given = c.args in
    let kind = given.from.kind in
    let two = at.invariant.0 in
    let known = at.invariant.1 in
    let event = c.event_at-r in
    let r = event.result in
    let within = c.loop-i-test.true in
    let is = c.in-8.is in
    let fits = sym c.fits_none.ensures ∙ c.if-fits_none.true in
    let new = c.reset_device-d in
    let told_of = c.answered-a in
    let arm = reset_arm kind at.sides at.bus at.arb two at.owner at.lines known.5 known.6 r (reads_reset r is fits) new.result
    told_of.result (new.ensures ∙ ap (was_reset 0) c.device_of.ensures) told_of.ensures in
    let put = c.put_answer-then-fits_none in (
      two_on (set at.sides _ _) _ _ (two_on at.sides _ _ two),
      stepped_on given.events.now given.answers.now given.n given.from at.answers at.owner at.lines kind at.sides
          at.bus at.arb at.i two known within c.requires.0 c.requires.1
          (stepped_with new.result told_of.result) r event.ensures arm _ _ put.auto.answers put.ensures refl,
    )

pub loop-i-preserved-then-r-eq6 : goal.loop-i-preserved-then-r-eq6
loop-i-preserved-then-r-eq6 c =
    let at = c.loop-i in
    let given = c.args in
    let kind = given.from.kind in
    let two = at.invariant.0 in
    let known = at.invariant.1 in
    let event = c.event_at-r in
    let r = event.result in
    let within = c.loop-i-test.true in
    let is = c.in-9.is in
    let fits = sym c.fits_byte-in-9.ensures
    ∙ c.if-fits_byte-3.true in
    let soft = eq-eqb _ _ c.if-r-eq6.true in
    let hold = c.hold_asked in
    let new = c.reset_device-d-then-r-eq6 in
    let told_of = c.answered-a-then-r-eq6 in
    let arm = soft-arm kind at.sides at.bus at.arb two at.owner at.lines known.5 known.6 r (first_holds _ _ fits)
    (reads_call r is fits) soft hold.result hold.ensures new.result told_of.result
    (new.ensures ∙ ap (was_reset hold.result) c.device_of-then-r-eq6.ensures) told_of.ensures in
    let put = c.put_answer-then-r-eq6 in (
      two_on (set at.sides _ _) _ _ (two_on at.sides _ _ two),
      stepped_on given.events.now given.answers.now given.n given.from at.answers at.owner at.lines kind at.sides
          at.bus at.arb at.i two known within c.requires.0 c.requires.1
          (stepped_with new.result told_of.result) r event.ensures arm _ _ put.auto.answers put.ensures refl,
    )

pub loop-i-preserved-else-r-eq6 : goal.loop-i-preserved-else-r-eq6
loop-i-preserved-else-r-eq6 c =
    let at = c.loop-i in
    let given = c.args in
    let kind = given.from.kind in
    let two = at.invariant.0 in
    let known = at.invariant.1 in
    let event = c.event_at-r in
    let r = event.result in
    let within = c.loop-i-test.true in
    let is = c.in-9.is in
    let settled = known.4 in
    let fits = sym c.fits_byte-in-9.ensures
    ∙ c.if-fits_byte-3.true in
    let other = ne_eqb _ _ c.if-r-eq6.false in
    let arm = call_arm kind at.sides at.bus at.arb two at.owner at.lines known.5 known.6 r (reads_call r is fits) settled other in (
      two,
      turned given.events.now given.answers.now given.n given.from at.answers at.owner at.lines
          (held kind at.sides at.bus at.arb) at.i known within c.requires.0 c.requires.1
          (stepped_with (held kind at.sides at.bus at.arb) (kept 1 0 at.owner at.lines)) r event.ensures (arm) _ _
          c.put_answer-else-r-eq6.auto.answers c.put_answer-else-r-eq6.ensures c.answer_kept-else-r-eq6.ensures,
    )

pub loop-i-preserved-then-fits_byte : goal.loop-i-preserved-then-fits_byte
loop-i-preserved-then-fits_byte c =
    let at = c.loop-i in
    let given = c.args in
    let kind = given.from.kind in
    let two = at.invariant.0 in
    let known = at.invariant.1 in
    let event = c.event_at-r in
    let r = event.result in
    let within = c.loop-i-test.true in
    let is = c.in-0.is in
    let settled = known.4 in
    let fits = sym c.fits_byte.ensures
    ∙ c.if-fits_byte.true in
    let side = c.commanded_side in
    let number = c.commanded_number in
    let arm = command-arm kind at.sides at.bus at.arb two at.owner at.lines known.5 known.6 r (first_holds _ _ fits)
    (reads_command r is fits) settled side.result number.result side.ensures number.ensures in (
      two_on at.sides _ _ two,
      turned given.events.now given.answers.now given.n given.from at.answers at.owner at.lines
          (held kind at.sides at.bus at.arb) at.i known within c.requires.0 c.requires.1
          (stepped_with (held kind (set at.sides (r.x % 2) side.result) at.bus at.arb) (kept number.result 0 at.owner at.lines)) r
          event.ensures (arm) _ _ c.put_answer.auto.answers c.put_answer.ensures
          c.answer_kept-then-fits_byte.ensures,
    )

pub loop-i-preserved-then-writes_lightly : goal.loop-i-preserved-then-writes_lightly
loop-i-preserved-then-writes_lightly c =
    let at = c.loop-i in
    let given = c.args in
    let kind = given.from.kind in
    let two = at.invariant.0 in
    let known = at.invariant.1 in
    let event = c.event_at-r in
    let r = event.result in
    let within = c.loop-i-test.true in
    let is = c.in-1.is in
    let settled = known.4 in
    let fits = sym c.fits_byte-in-1.ensures
    ∙ c.if-fits_byte-2.true in
    let opened = sym c.takes_bytes.ensures
    ∙ c.if-takes_bytes.true in
    let light = sym c.writes_lightly.ensures ∙ c.if-writes_lightly.true in
    let writer = c.writer_side in
    let partner = c.partner_written in
    let number = c.written_number in
    let lines = c.lines_shown-lines in
    let s = side_at at.sides (r.x % 2) in
    let wrote = writer.ensures ∙ ap₂ (λ (x y : Bool). write_risen x (own_written y s.pointer r.y s)) c.rolls_over-rolls.ensures
    c.granted_at.ensures in
    let arm = write-arm kind at.sides at.bus at.arb two at.owner at.lines known.5 known.6 r (first_holds _ _ fits)
    (reads_write r is fits) settled opened light writer.result partner.result number.result lines.result wrote partner.ensures
    number.ensures lines.ensures in (
      two_on (set at.sides _ _) _ _ (two_on at.sides _ _ two),
      turned given.events.now given.answers.now given.n given.from at.answers at.owner at.lines
          (held kind at.sides at.bus at.arb) at.i known within c.requires.0 c.requires.1
          (stepped_with (held kind (set (set at.sides (r.x % 2) writer.result) (1 - r.x % 2) partner.result) at.bus at.arb)
          (kept number.result 0 at.owner lines.result)) r event.ensures (arm) _ _ c.put_answer-then-writes_lightly.auto.answers
          c.put_answer-then-writes_lightly.ensures c.answer_kept-then-writes_lightly.ensures,
    )

pub loop-i-preserved-else-takes_bytes : goal.loop-i-preserved-else-takes_bytes
loop-i-preserved-else-takes_bytes c =
    let at = c.loop-i in
    let given = c.args in
    let kind = given.from.kind in
    let two = at.invariant.0 in
    let known = at.invariant.1 in
    let event = c.event_at-r in
    let r = event.result in
    let within = c.loop-i-test.true in
    let is = c.in-1.is in
    let fits = sym c.fits_byte-in-1.ensures
    ∙ c.if-fits_byte-2.true in
    let shut = sym c.takes_bytes.ensures ∙ c.if-takes_bytes.false in
    let arm = write-refused kind at.sides at.bus at.arb two at.owner at.lines known.5 known.6 r (first_holds _ _ fits)
    (reads_write r is fits) shut in (
      two,
      turned given.events.now given.answers.now given.n given.from at.answers at.owner at.lines
          (held kind at.sides at.bus at.arb) at.i known within c.requires.0 c.requires.1
          (stepped_with (held kind at.sides at.bus at.arb) (kept 4 0 at.owner at.lines)) r event.ensures (arm) _ _
          c.put_answer-else-takes_bytes.auto.answers c.put_answer-else-takes_bytes.ensures c.answer_kept-else-takes_bytes.ensures,
    )

pub loop-i-preserved-then-empties_own : goal.loop-i-preserved-then-empties_own
loop-i-preserved-then-empties_own c =
    let at = c.loop-i in
    let given = c.args in
    let kind = given.from.kind in
    let two = at.invariant.0 in
    let known = at.invariant.1 in
    let event = c.event_at-r in
    let r = event.result in
    let within = c.loop-i-test.true in
    let is = c.in-2.is in
    let settled = known.4 in
    let fits = sym c.fits_one.ensures ∙ c.if-fits_one.true in
    let emptied = sym c.empties_own.ensures ∙ c.if-empties_own.true in
    let reader = c.reader_side in
    let sender = c.sender_side in
    let byte = c.byte_read-read in
    let lines = c.lines_shown-lines-then-empties_own in
    let arm = read-emptying kind at.sides at.bus at.arb two at.owner at.lines known.5 known.6 r (first_holds _ _ (first_holds _ _ fits))
    (reads_read r is fits) settled emptied reader.result sender.result byte.result lines.result reader.ensures sender.ensures
    byte.ensures lines.ensures in (
      two_on (set at.sides _ _) _ _ (two_on at.sides _ _ two),
      turned given.events.now given.answers.now given.n given.from at.answers at.owner at.lines
          (held kind at.sides at.bus at.arb) at.i known within c.requires.0 c.requires.1
          (stepped_with (held kind (set (set at.sides (r.x % 2) reader.result) (1 - r.x % 2) sender.result) at.bus at.arb)
          (kept 0 byte.result at.owner lines.result)) r event.ensures (arm) _ _ c.put_answer-then-empties_own.auto.answers
          c.put_answer-then-empties_own.ensures c.answer_kept-then-empties_own.ensures,
    )

pub loop-i-preserved-else-empties_own : goal.loop-i-preserved-else-empties_own
loop-i-preserved-else-empties_own c =
    let at = c.loop-i in
    let given = c.args in
    let kind = given.from.kind in
    let two = at.invariant.0 in
    let known = at.invariant.1 in
    let event = c.event_at-r in
    let r = event.result in
    let within = c.loop-i-test.true in
    let is = c.in-2.is in
    let settled = known.4 in
    let fits = sym c.fits_one.ensures ∙ c.if-fits_one.true in
    let emptied = sym c.empties_own.ensures ∙ c.if-empties_own.false in
    let reader = c.reader_side in
    let byte = c.byte_read-read in
    let arm = read-arm kind at.sides at.bus at.arb two at.owner at.lines known.5 known.6 r (first_holds _ _ (first_holds _ _ fits))
    (reads_read r is fits) settled emptied reader.result byte.result reader.ensures byte.ensures in (
      two_on at.sides _ _ two,
      turned given.events.now given.answers.now given.n given.from at.answers at.owner at.lines
          (held kind at.sides at.bus at.arb) at.i known within c.requires.0 c.requires.1
          (stepped_with (held kind (set at.sides (r.x % 2) reader.result) at.bus at.arb) (kept 0 byte.result at.owner at.lines)) r
          event.ensures (arm) _ _ c.put_answer-else-empties_own.auto.answers c.put_answer-else-empties_own.ensures
          c.answer_kept-else-empties_own.ensures,
    )

pub loop-i-preserved-then-is_resting : goal.loop-i-preserved-then-is_resting
loop-i-preserved-then-is_resting c =
    let at = c.loop-i in
    let given = c.args in
    let kind = given.from.kind in
    let two = at.invariant.0 in
    let known = at.invariant.1 in
    let event = c.event_at-r in
    let r = event.result in
    let within = c.loop-i-test.true in
    let is = c.in-3.is in
    let fits = sym c.fits_one-in-3.ensures
    ∙ c.if-fits_one-2.true in
    let rests = sym c.is_resting.ensures ∙ c.if-is_resting.true in
    let arm = stop_refused kind at.sides at.bus at.arb two at.owner at.lines known.5 known.6 r (first_holds _ _ (first_holds _ _ fits))
    (reads_stop r is fits) rests in (
      two,
      turned given.events.now given.answers.now given.n given.from at.answers at.owner at.lines
          (held kind at.sides at.bus at.arb) at.i known within c.requires.0 c.requires.1
          (stepped_with (held kind at.sides at.bus at.arb) (kept 4 0 at.owner at.lines)) r event.ensures (arm) _ _
          c.put_answer-then-is_resting.auto.answers c.put_answer-then-is_resting.ensures c.answer_kept-then-is_resting.ensures,
    )

pub loop-i-preserved-else-is_granted_at_rest : goal.loop-i-preserved-else-is_granted_at_rest
loop-i-preserved-else-is_granted_at_rest c =
    let at = c.loop-i in
    let given = c.args in
    let kind = given.from.kind in
    let two = at.invariant.0 in
    let known = at.invariant.1 in
    let event = c.event_at-r in
    let r = event.result in
    let within = c.loop-i-test.true in
    let is = c.in-3.is in
    let settled = known.4 in
    let fits = sym c.fits_one-in-3.ensures ∙ c.if-fits_one-2.true in
    let opened = sym c.is_resting.ensures
    ∙ c.if-is_resting.false in
    let claims = sym c.is_granted_at_rest.ensures
    ∙ c.if-is_granted_at_rest.false in
    let side = c.stopped_side in
    let arm = stop-arm kind at.sides at.bus at.arb two at.owner at.lines known.5 known.6 r (first_holds _ _ (first_holds _ _ fits))
    (reads_stop r is fits) settled opened claims side.result side.ensures in (
      two_on at.sides _ _ two,
      turned given.events.now given.answers.now given.n given.from at.answers at.owner at.lines
          (held kind at.sides at.bus at.arb) at.i known within c.requires.0 c.requires.1
          (stepped_with (held kind (set at.sides (r.x % 2) side.result) at.bus at.arb) (kept 0 0 at.owner at.lines)) r event.ensures (arm)
          _ _ c.put_answer-else-is_granted_at_rest.auto.answers c.put_answer-else-is_granted_at_rest.ensures c.answer_kept-else-is_granted_at_rest.ensures,
    )

pub loop-i-preserved-then-pairs_lightly : goal.loop-i-preserved-then-pairs_lightly
loop-i-preserved-then-pairs_lightly c =
    let at = c.loop-i in
    let given = c.args in
    let kind = given.from.kind in
    let two = at.invariant.0 in
    let known = at.invariant.1 in
    let event = c.event_at-r in
    let r = event.result in
    let within = c.loop-i-test.true in
    let is = c.in-4.is in
    let settled = known.4 in
    let unused = eq-eqb _ _ c.if-r-eq0.true in
    let opened = ap₂ (λ (x y : Bool). x && y) (sym c.takes_bytes-then-r-eq0.ensures)
    (sym c.takes_bytes-then-r-eq0-2.ensures) ∙ c.if-takes_bytes-2.true in
    let light = sym c.pairs_lightly.ensures ∙ c.if-pairs_lightly.true in
    let s0 = side_at at.sides 0 in
    let s1 = side_at at.sides 1 in
    let first = c.pair_side-e0 in
    let second = c.pair_side-e1 in
    let number = c.paired_number in
    let lines = c.lines_shown-lines-then-pairs_lightly in
    let rolls = c.rolls_over-rolls.ensures in
    let wrote0 = first.ensures ∙ ap₂ (λ (x y : Bool). mail_written s1.pointer r.y (write_risen x (own_written y s0.pointer r.x s0))) rolls
    c.granted_at-then-pairs_lightly.ensures in
    let wrote1 = second.ensures ∙ ap₂ (λ (x y : Bool). mail_written s0.pointer r.x (write_risen x (own_written y s1.pointer r.y s1))) rolls
    c.granted_at-then-pairs_lightly-2.ensures in
    let arm = pair_arm kind at.sides at.bus at.arb two at.owner at.lines known.5 known.6 r (reads_pair r is unused) settled opened
    light first.result second.result number.result lines.result wrote0 wrote1 number.ensures lines.ensures in (
      two_on (set at.sides _ _) _ _ (two_on at.sides _ _ two),
      turned given.events.now given.answers.now given.n given.from at.answers at.owner at.lines
          (held kind at.sides at.bus at.arb) at.i known within c.requires.0 c.requires.1
          (stepped_with (held kind (set (set at.sides 0 first.result) 1 second.result) at.bus at.arb)
          (kept number.result 0 at.owner lines.result)) r event.ensures (arm) _ _ c.put_answer-then-pairs_lightly.auto.answers
          c.put_answer-then-pairs_lightly.ensures c.answer_kept-then-pairs_lightly.ensures,
    )

pub loop-i-preserved-else-takes_bytes-2 : goal.loop-i-preserved-else-takes_bytes-2
loop-i-preserved-else-takes_bytes-2 c =
    let at = c.loop-i in
    let given = c.args in
    let kind = given.from.kind in
    let two = at.invariant.0 in
    let known = at.invariant.1 in
    let event = c.event_at-r in
    let r = event.result in
    let within = c.loop-i-test.true in
    let is = c.in-4.is in
    let unused = eq-eqb _ _ c.if-r-eq0.true in
    let shut = ap₂ (λ (x y : Bool). x && y) (sym c.takes_bytes-then-r-eq0.ensures)
    (sym c.takes_bytes-then-r-eq0-2.ensures) ∙ c.if-takes_bytes-2.false in
    let arm = pair_refused kind at.sides at.bus at.arb two at.owner at.lines known.5 known.6 r (reads_pair r is unused) shut in (
      two,
      turned given.events.now given.answers.now given.n given.from at.answers at.owner at.lines
          (held kind at.sides at.bus at.arb) at.i known within c.requires.0 c.requires.1
          (stepped_with (held kind at.sides at.bus at.arb) (kept 4 0 at.owner at.lines)) r event.ensures (arm) _ _
          c.put_answer-else-takes_bytes-2.auto.answers c.put_answer-else-takes_bytes-2.ensures c.answer_kept-else-takes_bytes-2.ensures,
    )

pub overflow_add-owner : goal.overflow_add-owner
overflow_add-owner c =
    let at = c.loop-i in
    let given = c.args in
    let kind = given.from.kind in
    let two = at.invariant.0 in
    let known = at.invariant.1 in
    let event = c.event_at-r in
    let r = event.result in
    let s = side_at at.sides (r.x % 2) in
    let all = stop_told r at.bus at.arb s
    (sym c.stop_grants.ensures ∙ c.if-stop_grants.true) in
    let settled = known.4 in
    let room = grant-room kind at.sides at.bus at.arb two at.owner at.lines known.5 known.6 r (first_holds _ _ (first_holds _ _ all.1))
    settled all.3 in
    omega (arith, room, c.granted_bits-owner.ensures.1)

pub loop-i-preserved-then-stop_grants : goal.loop-i-preserved-then-stop_grants
loop-i-preserved-then-stop_grants c =
    let at = c.loop-i in
    let given = c.args in
    let kind = given.from.kind in
    let two = at.invariant.0 in
    let known = at.invariant.1 in
    let event = c.event_at-r in
    let r = event.result in
    let s = side_at at.sides (r.x % 2) in
    let all = stop_told r at.bus at.arb s
    (sym c.stop_grants.ensures ∙ c.if-stop_grants.true) in
    let is = all.0 in
    let settled = known.4 in
    let within = c.loop-i-test.true in
    let after = c.idle_kept-after in
    let won = c.granted_arb-won in
    let bits = c.granted_bits-owner in
    let side = c.granted_side in
    let lines = c.lines_shown-lines-then-stop_grants in
    let arm = grant-arm kind at.sides at.bus at.arb two at.owner at.lines known.5 known.6 r (first_holds _ _ (first_holds _ _ all.1))
    (reads_stop r is all.1) settled all.2 all.3 side.result after.result won.result bits.result lines.result side.ensures
    after.ensures won.ensures bits.ensures.0 lines.ensures in (
      two_on at.sides _ _ two,
      turned given.events.now given.answers.now given.n given.from at.answers at.owner at.lines
          (held kind at.sides at.bus at.arb) at.i known within c.requires.0 c.requires.1
          (stepped_with (held kind (set at.sides (r.x % 2) side.result) after.result won.result)
          (kept 0 0 (at.owner + bits.result) lines.result)) r event.ensures (arm) _ _ c.put_answer-then-stop_grants.auto.answers
          c.put_answer-then-stop_grants.ensures c.answer_kept-then-stop_grants.ensures,
    )

pub loop-i-preserved-then-byte_claims : goal.loop-i-preserved-then-byte_claims
loop-i-preserved-then-byte_claims c =
    let at = c.loop-i in
    let given = c.args in
    let kind = given.from.kind in
    let two = at.invariant.0 in
    let known = at.invariant.1 in
    let event = c.event_at-r in
    let r = event.result in
    let s = side_at at.sides (r.x % 2) in
    let all = claim_told r at.arb s
    (sym c.byte_claims.ensures
    ∙ c.if-byte_claims.true) in
    let is = all.0 in
    let settled = known.4 in
    let within = c.loop-i-test.true in
    let claimed = c.claimed_arb-claimed in
    let side = c.writer_side-then-byte_claims in
    let wrote = side.ensures ∙ ap (λ (x : Bool). write_risen x (own_written false s.pointer r.y s))
    c.rolls_over-rolls.ensures in
    let arm = claim-arm kind at.sides at.bus at.arb two at.owner at.lines known.5 known.6 r (first_holds _ _ all.1)
    (reads_write r is all.1) settled all.2 all.3 all.4 all.5 side.result claimed.result wrote claimed.ensures in (
      two_on at.sides _ _ two,
      turned given.events.now given.answers.now given.n given.from at.answers at.owner at.lines
          (held kind at.sides at.bus at.arb) at.i known within c.requires.0 c.requires.1
          (stepped_with (held kind (set at.sides (r.x % 2) side.result) at.bus claimed.result) (kept 0 0 32 at.lines)) r event.ensures (arm) _
          _ c.put_answer-then-byte_claims.auto.answers c.put_answer-then-byte_claims.ensures c.answer_kept-then-byte_claims.ensures,
    )

pub overflow_add-last : goal.overflow_add-last
overflow_add-last c =
    let at = c.loop-i in
    let given = c.args in
    let ahead = c.counts_left-k in
    let few = c.min in
    let within = c.loop-i-test.true in
    let least = least_both ahead.result (given.n - at.i) few.result few.ensures in
    omega (arith, least.1, within, c.ranges.n)

pub play_ticks-j-requires : goal.play_ticks-j-requires
play_ticks-j-requires c =
    let at = c.loop-i in
    let given = c.args in
    let ahead = c.counts_left-k in
    let few = c.min in
    let within = c.loop-i-test.true in
    let least = least_both ahead.result (given.n - at.i) few.result few.ensures in
    let some : 1 ≤ given.n - at.i = omega (arith, within) in (
      omega (arith, least.2 (some_one ahead.result c.if-k-eq0.false) some),
      omega (arith, least.1, within, c.requires.0),
      omega (arith, least.1, within, c.requires.1, at.invariant.1.1),
    )

pub overflow_sub-j : goal.overflow_sub-j
overflow_sub-j c = omega (arith, c.play_ticks-j.ensures.0)

pub overflow_cast-j : goal.overflow_cast-j
overflow_cast-j c =
    let at = c.loop-i in
    let given = c.args in
    let ahead = c.counts_left-k in
    let few = c.min in
    let within = c.loop-i-test.true in
    let least = least_both ahead.result (given.n - at.i) few.result few.ensures in
    omega (arith, c.play_ticks-j.ensures.1, least.0, ahead.type_inv)

pub loop-i-preserved-else-k-eq0 : goal.loop-i-preserved-else-k-eq0
loop-i-preserved-else-k-eq0 c =
    let at = c.loop-i in
    let given = c.args in
    let kind = given.from.kind in
    let two = at.invariant.0 in
    let known = at.invariant.1 in
    let event = c.event_at-r in
    let r = event.result in
    let within = c.loop-i-test.true in
    let tick = sym c.is_tick.ensures ∙ c.if-is_tick.true in
    let whole = c.device_of-d in
    let ahead = c.counts_left-k in
    let few = c.min in
    let played = c.play_ticks-j in
    let moved = c.after_ticks-e in (
      two,
      ticked_on given.events.now given.answers.now given.n given.from at.answers at.owner at.lines kind at.sides
          at.bus at.arb at.i two known within c.requires.0 c.requires.1
          whole.result whole.ensures ahead.result ahead.ensures
          c.if-k-eq0.false r event.ensures tick few.result few.ensures
          played.result played.ensures.0 played.ensures.1 played.ensures.2 _
          c.answer_kept.ensures _ played.auto.answers played.ensures.3 moved.result
          moved.ensures,
    )

pub loop-i-preserved-else-unread-eq0 : goal.loop-i-preserved-else-unread-eq0
loop-i-preserved-else-unread-eq0 c =
    let at = c.loop-i in
    let given = c.args in
    let kind = given.from.kind in
    let two = at.invariant.0 in
    let known = at.invariant.1 in
    let event = c.event_at-r in
    let r = event.result in
    let within = c.loop-i-test.true in
    let unread = c.unread_number-unread in
    let arm = unread_arm kind at.sides at.bus at.arb two at.owner at.lines known.5 known.6 r unread.result unread.ensures
    c.if-unread-eq0.false in (
      two,
      turned given.events.now given.answers.now given.n given.from at.answers at.owner at.lines
          (held kind at.sides at.bus at.arb) at.i known within c.requires.0 c.requires.1
          (stepped_with (held kind at.sides at.bus at.arb) (kept unread.result 0 at.owner at.lines)) r event.ensures (arm) _ _
          c.put_answer-else-unread-eq0.auto.answers c.put_answer-else-unread-eq0.ensures c.answer_kept-else-unread-eq0.ensures,
    )

pub loop-i-preserved : goal.loop-i-preserved
loop-i-preserved c =
    let at = c.loop-i in
    let given = c.args in
    let kind = given.from.kind in
    let two = at.invariant.0 in
    let known = at.invariant.1 in
    let event = c.event_at-r in
    let r = event.result in
    let within = c.loop-i-test.true in
    let s = c.step_device-s in
    let whole = c.device_of-in-loop-i in
    let put = c.put_answer-in-loop-i in
    let truly = s.ensures ∙ ap (λ (x : Device). step x r) whole.ensures in (
      two_on (set at.sides _ _) _ _ (two_on at.sides _ _ two),
      stepped_on given.events.now given.answers.now given.n given.from at.answers at.owner at.lines kind at.sides
          at.bus at.arb at.i two known within c.requires.0 c.requires.1
          s.result r event.ensures truly _ _ put.auto.answers put.ensures refl,
    )

pub loop-i-smaller-else-k-eq0 : goal.loop-i-smaller-else-k-eq0
loop-i-smaller-else-k-eq0 c =
    omega (
      arith,
      c.play_ticks-j.ensures.0,
      c.loop-i-test.true,
    )

pub overflow_add-i : goal.overflow_add-i
overflow_add-i c =
    omega (arith, c.loop-i-test.true, c.ranges.n)

pub loop-i-smaller-then-fits_byte : goal.loop-i-smaller-then-fits_byte
loop-i-smaller-then-fits_byte c =
    omega (arith, c.loop-i-test.true)

pub overflow_add-i-then-writes_lightly : goal.overflow_add-i-then-writes_lightly
overflow_add-i-then-writes_lightly c =
    omega (arith, c.loop-i-test.true, c.ranges.n)

pub loop-i-smaller-then-writes_lightly : goal.loop-i-smaller-then-writes_lightly
loop-i-smaller-then-writes_lightly c =
    omega (arith, c.loop-i-test.true)

pub overflow_add-i-else-takes_bytes : goal.overflow_add-i-else-takes_bytes
overflow_add-i-else-takes_bytes c =
    omega (arith, c.loop-i-test.true, c.ranges.n)

pub loop-i-smaller-else-takes_bytes : goal.loop-i-smaller-else-takes_bytes
loop-i-smaller-else-takes_bytes c =
    omega (arith, c.loop-i-test.true)

pub overflow_add-i-then-empties_own : goal.overflow_add-i-then-empties_own
overflow_add-i-then-empties_own c =
    omega (arith, c.loop-i-test.true, c.ranges.n)

pub loop-i-smaller-then-empties_own : goal.loop-i-smaller-then-empties_own
loop-i-smaller-then-empties_own c =
    omega (arith, c.loop-i-test.true)

pub overflow_add-i-else-empties_own : goal.overflow_add-i-else-empties_own
overflow_add-i-else-empties_own c =
    omega (
      arith,
      c.loop-i-test.true,
      c.ranges.n,
    )

pub loop-i-smaller-else-empties_own : goal.loop-i-smaller-else-empties_own
loop-i-smaller-else-empties_own c =
    omega (arith, c.loop-i-test.true)

pub overflow_add-i-then-is_resting : goal.overflow_add-i-then-is_resting
overflow_add-i-then-is_resting c =
    omega (arith, c.loop-i-test.true, c.ranges.n)

pub loop-i-smaller-then-is_resting : goal.loop-i-smaller-then-is_resting
loop-i-smaller-then-is_resting c =
    omega (arith, c.loop-i-test.true)

pub overflow_add-i-else-is_granted_at_rest : goal.overflow_add-i-else-is_granted_at_rest
overflow_add-i-else-is_granted_at_rest c =
    omega (
      arith,
      c.loop-i-test.true,
      c.ranges.n,
    )

pub loop-i-smaller-else-is_granted_at_rest : goal.loop-i-smaller-else-is_granted_at_rest
loop-i-smaller-else-is_granted_at_rest c =
    omega (arith, c.loop-i-test.true)

pub overflow_add-i-then-pairs_lightly : goal.overflow_add-i-then-pairs_lightly
overflow_add-i-then-pairs_lightly c =
    omega (arith, c.loop-i-test.true, c.ranges.n)

pub loop-i-smaller-then-pairs_lightly : goal.loop-i-smaller-then-pairs_lightly
loop-i-smaller-then-pairs_lightly c =
    omega (arith, c.loop-i-test.true)

pub overflow_add-i-else-takes_bytes-2 : goal.overflow_add-i-else-takes_bytes-2
overflow_add-i-else-takes_bytes-2 c =
    omega (
      arith,
      c.loop-i-test.true,
      c.ranges.n,
    )

pub loop-i-smaller-else-takes_bytes-2 : goal.loop-i-smaller-else-takes_bytes-2
loop-i-smaller-else-takes_bytes-2 c =
    omega (arith, c.loop-i-test.true)

pub overflow_add-i-then-ends_no_grant : goal.overflow_add-i-then-ends_no_grant
overflow_add-i-then-ends_no_grant c =
    omega (arith, c.loop-i-test.true, c.ranges.n)

pub loop-i-smaller-then-ends_no_grant : goal.loop-i-smaller-then-ends_no_grant
loop-i-smaller-then-ends_no_grant c =
    omega (arith, c.loop-i-test.true)

pub overflow_add-i-else-is_initialising : goal.overflow_add-i-else-is_initialising
overflow_add-i-else-is_initialising c =
    omega (arith, c.loop-i-test.true, c.ranges.n)

pub loop-i-smaller-else-is_initialising : goal.loop-i-smaller-else-is_initialising
loop-i-smaller-else-is_initialising c =
    omega (arith, c.loop-i-test.true)

pub overflow_add-i-then-fits_none : goal.overflow_add-i-then-fits_none
overflow_add-i-then-fits_none c =
    omega (
      arith,
      c.loop-i-test.true,
      c.ranges.n,
    )

pub loop-i-smaller-then-fits_none : goal.loop-i-smaller-then-fits_none
loop-i-smaller-then-fits_none c =
    omega (arith, c.loop-i-test.true)

pub overflow_add-i-then-r-eq6 : goal.overflow_add-i-then-r-eq6
overflow_add-i-then-r-eq6 c =
    omega (arith, c.loop-i-test.true, c.ranges.n)

pub loop-i-smaller-then-r-eq6 : goal.loop-i-smaller-then-r-eq6
loop-i-smaller-then-r-eq6 c =
    omega (arith, c.loop-i-test.true)

pub overflow_add-i-else-r-eq6 : goal.overflow_add-i-else-r-eq6
overflow_add-i-else-r-eq6 c =
    omega (arith, c.loop-i-test.true, c.ranges.n)

pub loop-i-smaller-else-r-eq6 : goal.loop-i-smaller-else-r-eq6
loop-i-smaller-else-r-eq6 c =
    omega (arith, c.loop-i-test.true)

pub overflow_add-i-then-stop_grants : goal.overflow_add-i-then-stop_grants
overflow_add-i-then-stop_grants c =
    omega (
      arith,
      c.loop-i-test.true,
      c.ranges.n,
    )

pub loop-i-smaller-then-stop_grants : goal.loop-i-smaller-then-stop_grants
loop-i-smaller-then-stop_grants c =
    omega (arith, c.loop-i-test.true)

pub overflow_add-i-then-byte_claims : goal.overflow_add-i-then-byte_claims
overflow_add-i-then-byte_claims c =
    omega (
      arith,
      c.loop-i-test.true,
      c.ranges.n,
    )

pub loop-i-smaller-then-byte_claims : goal.loop-i-smaller-then-byte_claims
loop-i-smaller-then-byte_claims c =
    omega (arith, c.loop-i-test.true)

pub overflow_add-i-else-unread-eq0 : goal.overflow_add-i-else-unread-eq0
overflow_add-i-else-unread-eq0 c =
    omega (
      arith,
      c.loop-i-test.true,
      c.ranges.n,
    )

pub loop-i-smaller-else-unread-eq0 : goal.loop-i-smaller-else-unread-eq0
loop-i-smaller-else-unread-eq0 c =
    omega (arith, c.loop-i-test.true)

pub overflow_add-i-in-loop-i : goal.overflow_add-i-in-loop-i
overflow_add-i-in-loop-i c =
    omega (
      arith,
      c.loop-i-test.true,
      c.ranges.n,
    )

pub loop-i-smaller : goal.loop-i-smaller
loop-i-smaller c =
    omega (arith, c.loop-i-test.true)
