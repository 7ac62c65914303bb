-- The sender's own word: sent and then the bit cleared, or the other way round, and the bit then seen set.
-- Assumes nothing.
use mathlib.Core.Path.{◌≡◌, refl, ap, ap₂, ◌∙◌}
use mathlib.Core.Bool.{false≢true, and-eq-true_iff, and-false}
use mathlib.Core.List.{append_assoc}
use Rattle.std.specs.Prelude.{◌&&◌, ◌∷◌, ◌++◌}
use Rattle.mail.specs.Names.{Bool, true, false, not, List, [], Master, Zero, One, Register, Id, Contr, Status, Rt, IntStatus, IntMask}
use Rattle.mail.specs.Names.{MailLow, MailHigh, Device, Raw, Event, bit, partner, power_up, is_reset, is_mail_high, run_from, run, next, reset, never, Word}
use Rattle.mail.specs.Words.{full, held, at, writes, byte_of, fills, fill_of, emptying_of}
use Rattle.mail.specs.Mail.{listed_from, filled, emptied}
use Rattle.mail.specs.Using.{sees_emptied, is_int_status, clears, clearing_of, SentClearedSeen, ClearedSentSeen}
use Rattle.arbiter.proofs.Runs.{never_comes}
use Rattle.mail.proofs.Said.{not_accepted, write_only, fill_no_reset, empty_no_emptying}
use Rattle.mail.proofs.Lists.{waiting, filled_from, emptied_from, grown, step_kept, kept_from, listed_append, kept}
use Rattle.mail.proofs.Using.{sees_clear, cleared_seen, Begins, begins_grown, extends, taken_from, empty_next, clear_from}

-- ---- lists

begins_trans : (ws us l : List Word) → Begins ws us → Begins us l → Begins ws l
begins_trans ws us l a b =
    (a.0 ++ b.0, b.1 ∙ ap (λ (x : List Word). x ++ b.0) a.1 ∙ append_assoc ws a.0 b.0)

begins_same : (ws us l : List Word) → ws ≡ us → Begins ws l → Begins us l
begins_same ws us l h b = (b.0, b.1 ∙ ap (λ (x : List Word). x ++ b.0) h)

-- What begins with ws and a word more goes on with that word after ws.
then_word : (ws : List Word) (w : Word) (l : List Word) → Begins (ws ++ w ∷ []) l → (since : List Word) × (l ≡ ws ++ w ∷ since)
then_word ws w l b = (b.0, b.1 ∙ append_assoc ws (w ∷ []) b.0)

-- Without such events and without a reset a list stays.
listed_none : (such : Raw → Device → Bool) (word_of : Raw → Device → Word) (rs : List Raw) (d : Device) (ws : List Word)
    → never reset d rs ≡ true → never such d rs ≡ true → listed_from such word_of d ws rs ≡ ws
unfolding listed_from
listed_none such word_of [] d ws n s = refl
listed_none such word_of (r ∷ rs) d ws n s =
    let now = never_comes reset r rs d n in
    let none = never_comes such r rs d s in
    ap (λ (l : List Word). listed_from such word_of (next d r) l rs) (ap₂ (λ (x y : Bool). grown x y ws (word_of r d)) now.0 none.0)
    ∙ listed_none such word_of rs (next d r) ws now.1 none.1

-- a list over a run, one event, some events, one event and the rest
four_parts : (such : Raw → Device → Bool) (word_of : Raw → Device → Word) (rs : List Raw) (f : Raw) (between : List Raw) (c : Raw) (later : List Raw)
    (d : Device) (ws : List Word) → let x : Device = run_from d rs in let y : Device = run_from (next x f) between in
    let l : List Word = listed_from such word_of (next x f) (grown (reset f x) (such f x) (listed_from such word_of d ws rs) (word_of f x)) between in
    listed_from such word_of d ws (rs ++ f ∷ (between ++ c ∷ later)) ≡ listed_from such word_of (next y c) (grown (reset c y) (such c y) l (word_of c y)) later
unfolding listed_from
four_parts such word_of rs f between c later d ws =
    listed_append such word_of rs (f ∷ (between ++ c ∷ later)) d ws
    ∙ listed_append such word_of between (c ∷ later) (next (run_from d rs) f) _

-- ---- what clears the bit

status_not_high : (r : Register) → is_int_status r ≡ true → is_mail_high r ≡ false
status_not_high Id h = refl
status_not_high Contr h = refl
status_not_high Status h = refl
status_not_high Rt h = refl
status_not_high IntStatus h = refl
status_not_high IntMask h = refl
status_not_high MailLow h = refl
status_not_high MailHigh h = absurd (false≢true h)

module _ (r : Raw) (d : Device) where
  -- it is a byte of s's to INT_STATUS
  byte_of_lem : (s : Master) (e : Event) → clears s e d ≡ true → (writes s e ≡ true) × (is_mail_high (at s d) ≡ false)
  byte_of_lem s e x =
      let two = (and-eq-true_iff (writes s e) (is_int_status (at s d) && bit 4 (byte_of s e))).0 x in
      (two.0, status_not_high (at s d) ((and-eq-true_iff (is_int_status (at s d)) (bit 4 (byte_of s e))).0 two.1).0)

  clear_no_reset : (s : Master) → clearing_of s r d ≡ true → reset r d ≡ false
  clear_no_reset s h = not_accepted (clears s) (λ e x. is_reset e) r d h λ e x. (write_only s s e (byte_of_lem s e x).0).0

  -- so it fills nothing
  no_fill : (s : Master) (e : Event) → clears s e d ≡ true → (writes s e && is_mail_high (at s d)) && not (full (partner s) d) ≡ false
  no_fill s e x =
      ap (λ (b : Bool). (writes s e && b) && not (full (partner s) d)) (byte_of_lem s e x).1
      ∙ ap (λ (b : Bool). b && not (full (partner s) d)) (and-false (writes s e))

  clear_no_fill : (s : Master) → clearing_of s r d ≡ true → fill_of (partner s) r d ≡ false
  clear_no_fill Zero h = not_accepted (clears Zero) (fills One) r d h λ e x. no_fill Zero e x
  clear_no_fill One h = not_accepted (clears One) (fills Zero) r d h λ e x. no_fill One e x

-- ---- two events and what comes between and after them

-- the two lists one event further
abbrev put : Master → Raw → Device → List Word → List Word
put m r d ws = grown (reset r d) (fill_of m r d) ws (held m (next d r))

abbrev got : Master → Raw → Device → List Word → List Word
got m r d us = grown (reset r d) (emptying_of m r d) us (held m d)

-- With ws filled and us emptied up to d: then come f, some events, and c, after which the bit is clear. Once it is set, all that was filled
-- up to c is emptied.
taken_after : (s : Master) (f : Raw) (between : List Raw) (c : Raw) (later : List Raw) (d : Device) (ws us : List Word) →
    let m : Master = partner s in let y : Device = run_from (next d f) between in
    ws ≡ us ++ waiting m d → sees_emptied s (next y c) ≡ false → never reset (next y c) later ≡ true → sees_emptied s (run_from (next y c) later) ≡ true
    → Begins (put m c y (filled_from m (next d f) (put m f d ws) between))
    (emptied_from m (next y c) (got m c y (emptied_from m (next d f) (got m f d us) between)) later)
taken_after s f between c later d ws us h b n e =
    let m : Master = partner s in
    let y : Device = run_from (next d f) between in
    let ws1 : List Word = put m f d ws in
    let us1 : List Word = got m f d us in
    let ws2 : List Word = filled_from m (next d f) ws1 between in
    let us2 : List Word = emptied_from m (next d f) us1 between in
    taken_from s later (next y c) (put m c y ws2) (got m c y us2)
    (step_kept m c y ws2 us2 (kept_from m between (next d f) ws1 us1 (step_kept m f d ws us h))) b n e

-- ---- sent, cleared, seen

pub sent_cleared_seen : SentClearedSeen
unfolding filled emptied run
sent_cleared_seen k s rs f between c later h n x n' e =
    let m : Master = partner s in
    let d0 : Device = run k rs in
    let d : Device = next d0 f in
    let y : Device = run_from d between in
    let ws : List Word = filled k m rs in
    let w : Word = held m d in
    let ws1 : List Word = put m f d0 ws in
    let ws2 : List Word = filled_from m d ws1 between in
    let fill : ws1 ≡ ws ++ w ∷ [] = ap₂ (λ (a b : Bool). grown a b ws w) (fill_no_reset m f d0 h) h in
    let end = taken_after s f between c later d0 ws (emptied k m rs) (kept k m rs) (cleared_seen s y c x) n' e in
    let from2 = begins_grown (reset c y) (fill_of m c y) ws2 (held m (next y c)) _ (clear_no_reset c y s x) end in
    let from1 = begins_trans ws1 ws2 _ (extends (fill_of m) (λ (r : Raw) (d : Device). held m (next d r)) between d ws1 n) from2 in
    let told = then_word ws w _ (begins_same ws1 (ws ++ w ∷ []) _ fill from1) in
    (told.0, four_parts (emptying_of m) (λ (r : Raw) (d : Device). held m d) rs f between c later (power_up k) [] ∙ told.1)

-- ---- cleared, sent, seen

pub cleared_sent_seen : ClearedSentSeen
unfolding filled emptied run
cleared_sent_seen k s rs c between f later x u n g h n' e =
    let m : Master = partner s in
    let d0 : Device = run k rs in
    let d : Device = next d0 c in
    let y : Device = run_from d between in
    let ws : List Word = filled k m rs in
    let w : Word = held m (next y f) in
    let ws1 : List Word = put m c d0 ws in
    let ws2 : List Word = filled_from m d ws1 between in
    let clear = clear_from s between d (cleared_seen s d0 c x) (empty_next m c d0 u (clear_no_fill c d0 s x)) g in
    let same : ws2 ≡ ws =
    listed_none (fill_of m) (λ (r : Raw) (d : Device). held m (next d r)) between d ws1 n g
    ∙ ap₂ (λ (a b : Bool). grown a b ws (held m d)) (clear_no_reset c d0 s x) (clear_no_fill c d0 s x)
    in
    let fill : put m f y ws2 ≡ ws ++ w ∷ [] =
    ap₂ (λ (a b : Bool). grown a b ws2 w) (fill_no_reset m f y h) h ∙ ap (λ (l : List Word). l ++ w ∷ []) same
    in
    let unset = sees_clear s f y (empty_no_emptying m f y clear.1) clear.0 in
    let end = taken_after s c between f later d0 ws (emptied k m rs) (kept k m rs) unset n' e in
    let told = then_word ws w _ (begins_same (put m f y ws2) (ws ++ w ∷ []) _ fill end) in
    (told.0, four_parts (emptying_of m) (λ (r : Raw) (d : Device). held m d) rs c between f later (power_up k) [] ∙ told.1)
