-- `importing::import_capture` answers the import of the capture, and leaves the buffer of it.
-- Assumes nothing.
use Rattle.std.proofs.Common.{◌≡◌, ◌*◌, ◌<◌, ◌≤◌, ◌||◌, length, sym, ◌∙◌, ap, arith}
use Rattle.capture.specs.Events.{captured, event_bytes}
use Rattle.capture.proofs.Bytes.{bytes_length}
use Rattle.importing.proofs.Numbers.{cut_found, refused_13, refused_11, refused_12, refused_9, accepted}
use Rattle.importing.proofs.Stored.{front_copied}
use Rattle.importing.proofs.import_capture.Goals as goal

pub returns-then-samples-gt32768 : goal.returns-then-samples-gt32768
returns-then-samples-gt32768 c = refused_13 c.args.address c.args.samples.now c.args.events.now c.if-samples-gt32768.true

pub returns-then-not-in_range : goal.returns-then-not-in_range
returns-then-not-in_range c =
    refused_11 c.args.address c.args.samples.now c.args.events.now c.if-samples-gt32768.false (sym c.in_range.ensures ∙ c.if-not-in_range.true)

pub returns-then-is_cut : goal.returns-then-is_cut
returns-then-is_cut c =
    let a = sym c.in_range.ensures ∙ c.if-not-in_range.false in
    let x = cut_found c.args.address c.args.samples.now _ _ c.walk-both.ensures.found (λ j. c.is_cut.ensures j || c.is_cut-2.ensures j) ∙ c.if-is_cut.true in
    refused_12 c.args.address c.args.samples.now c.args.events.now c.if-samples-gt32768.false a x

pub returns-then-events-n : goal.returns-then-events-n
returns-then-events-n c =
    let found = c.walk-both.ensures.found in
    let es = captured c.args.address c.args.samples.now in
    let n = ap length (c.bytes-bytes.ensures ∙ c.walk-both.ensures.written) ∙ bytes_length es in
    let a = sym c.in_range.ensures ∙ c.if-not-in_range.false in
    let x = cut_found c.args.address c.args.samples.now _ _ found (λ j. c.is_cut.ensures j || c.is_cut-2.ensures j) ∙ c.if-is_cut.false in
    let room : length c.args.events.now < 4 * length es = omega (arith, n, c.if-events-n.true) in
    refused_9 c.args.address c.args.samples.now c.args.events.now c.if-samples-gt32768.false a x room

pub returns : goal.returns
returns c =
    let es = captured c.args.address c.args.samples.now in
    let bytes = c.bytes-bytes.ensures ∙ c.walk-both.ensures.written in
    let n = ap length bytes ∙ bytes_length es in
    let a = sym c.in_range.ensures ∙ c.if-not-in_range.false in
    let x = cut_found c.args.address c.args.samples.now _ _ c.walk-both.ensures.found (λ j. c.is_cut.ensures j || c.is_cut-2.ensures j) ∙ c.if-is_cut.false in
    let room : 4 * length es ≤ length c.args.events.now = omega (arith, n, c.if-events-n.false) in
    let left = front_copied (event_bytes es) c.copy_from_slice.new.self c.args.events.now _ (c.copy_from_slice.ensures.after ∙ bytes) in
    accepted c.args.address c.args.samples.now c.args.events.now c.if-samples-gt32768.false a _ _ x room n left
