-- The sender knows that its word was taken; the reader gets the word that it empties.
-- Assumes nothing.
use mathlib.Core.Path.{◌≡◌, refl, sym, ap, ap₂, subst, ◌∙◌}
use mathlib.Core.Bool.{true≢false, and-eq-true_iff}
use mathlib.Core.List.{append_assoc, append-nil}
use Rattle.std.specs.Prelude.{◌&&◌, ◌∷◌, ◌++◌, if◌then◌else◌}
use Rattle.mail.specs.Names.{Bool, true, false, not, List, [], Master, Mailbox, Device, Raw, Event, bit, partner, power_up}
use Rattle.mail.specs.Names.{run_from, run, next, is_reset, is_mail_high, reset, never, Word}
use Rattle.mail.specs.Words.{full, held, at, writes, byte_of, empties, fill_of, emptying_of}
use Rattle.mail.specs.Mail.{listed_from, filled, emptied}
use Rattle.mail.specs.Using.{sees_emptied, is_int_status, clears, clearing_of, ClearedSeen, EmptiedSeen, WordsTaken, ClearUntilFilled}
use Rattle.arbiter.proofs.Choice.{split}
use Rattle.arbiter.proofs.Runs.{never_comes}
use Rattle.mail.proofs.Said.{not_accepted, write_only, emptying_meets, empty_no_emptying}
use Rattle.mail.proofs.Lists.{only, waiting, box_next, box_reset, emptied_from, grown, grown_by, step_kept, listed_append, kept}
use Rattle.mail.proofs.Told.{four_by, sees_next}

-- ---- one event

-- By the answers of the tests, s sees after it:
module _ (s : Master) (r : Raw) (d : Device) where
  abbrev seen : Bool → Bool → Bool → Bool → Bool
  seen now set clear b = if now then false else four_by set clear b

  sees_quiet : reset r d ≡ false → emptying_of (partner s) r d ≡ false → clearing_of s r d ≡ false → sees_emptied s (next d r) ≡ sees_emptied s d
  sees_quiet now set clear =
      sees_next s d r
      ∙ ap₂ (λ (x y : Bool). seen x y (clearing_of s r d) (sees_emptied s d)) now set
      ∙ ap (λ (x : Bool). seen false false x (sees_emptied s d)) clear

  -- set by the emptying,
  sees_set : reset r d ≡ false → emptying_of (partner s) r d ≡ true → sees_emptied s (next d r) ≡ true
  sees_set now set = sees_next s d r ∙ ap₂ (λ (x y : Bool). seen x y (clearing_of s r d) (sees_emptied s d)) now set

  -- and clear without it if it was clear.
  pub sees_clear : emptying_of (partner s) r d ≡ false → sees_emptied s d ≡ false → sees_emptied s (next d r) ≡ false
  sees_clear set b =
      sees_next s d r
      ∙ ap₂ (λ (x y : Bool). seen (reset r d) x (clearing_of s r d) y) set b
      ∙ go (reset r d) (clearing_of s r d)
    where
      go : (now clear : Bool) → seen now false clear false ≡ false
      go true clear = refl
      go false true = refl
      go false false = refl

pub cleared_seen : ClearedSeen
cleared_seen s d r h =
    let byte : (e : Event) → clears s e d ≡ true → writes s e ≡ true =
    λ e x. ((and-eq-true_iff (writes s e) (is_int_status (at s d) && bit 4 (byte_of s e))).0 x).0 in
    let now = not_accepted (clears s) (λ e x. is_reset e) r d h λ e x. (write_only s (partner s) e (byte e x)).0 in
    let set = not_accepted (clears s) (empties (partner s)) r d h
    λ e x. ap (λ (b : Bool). (b && is_mail_high (at (partner s) d)) && full (partner s) d) (write_only s (partner s) e (byte e x)).1 in
    sees_next s d r
    ∙ ap₂ (λ (x y : Bool). seen s r d x y (clearing_of s r d) (sees_emptied s d)) now set
    ∙ ap (λ (x : Bool). seen s r d false false x (sees_emptied s d)) h

-- ---- it is set exactly if the box has been emptied

stays_set : (s : Master) (later : List Raw) (d : Device) → sees_emptied s d ≡ true → never reset d later ≡ true → never (clearing_of s) d later ≡ true
    → sees_emptied s (run_from d later) ≡ true
unfolding run_from
stays_set s [] d h n c = h
stays_set s (r ∷ rs) d h n c =
    let now = never_comes reset r rs d n in
    let clear = never_comes (clearing_of s) r rs d c in
    stays_set s rs (next d r)
    (split (emptying_of (partner s) r d) (λ x. sees_set s r d now.0 x) (λ x. sees_quiet s r d now.0 x clear.0 ∙ h)) now.1 clear.1

emptied_from_lem : (s : Master) (later : List Raw) (d : Device)
    → sees_emptied s d ≡ false → never reset d later ≡ true → never (clearing_of s) d later ≡ true
    → sees_emptied s (run_from d later) ≡ not (never (emptying_of (partner s)) d later)
unfolding run_from never
emptied_from_lem s [] d h n c = h
emptied_from_lem s (r ∷ rs) d h n c =
    let m : Master = partner s in
    let now = never_comes reset r rs d n in
    let clear = never_comes (clearing_of s) r rs d c in
    let none : Bool → Bool = λ x. not (not x && never (emptying_of m) (next d r) rs) in
    split (emptying_of m r d)
    (λ x. stays_set s rs (next d r) (sees_set s r d now.0 x) now.1 clear.1 ∙ sym (ap none x))
    (λ x. emptied_from_lem s rs (next d r) (sees_clear s r d x h) now.1 clear.1 ∙ sym (ap none x))

pub emptied_seen : EmptiedSeen
emptied_seen k s rs later h n c = emptied_from_lem s later (run k rs) h n c

-- ---- the word was taken

-- l begins with ws
abbrev pub Begins : List Word → List Word → Type 0
Begins ws l = (since : List Word) × (l ≡ ws ++ since)

-- What begins with a list grown by an event that is no reset begins with that list.
pub begins_grown : (now such : Bool) (ws : List Word) (w : Word) (l : List Word) → now ≡ false → Begins (grown now such ws w) l → Begins ws l
begins_grown now such ws w l h b =
    let one = ap (λ (x : Bool). grown x such ws w) h ∙ grown_by such ws w in
    (only such w ++ b.0, b.1 ∙ ap (λ (x : List Word). x ++ b.0) one ∙ append_assoc ws (only such w) b.0)

-- Without a reset a list only grows.
pub extends : (such : Raw → Device → Bool) (word_of : Raw → Device → Word) (rs : List Raw) (d : Device) (ws : List Word) → never reset d rs ≡ true
    → Begins ws (listed_from such word_of d ws rs)
unfolding listed_from
extends such word_of [] d ws n = ([], sym (append-nil ws))
extends such word_of (r ∷ rs) d ws n =
    let now = never_comes reset r rs d n in
    begins_grown (reset r d) (such r d) ws (word_of r d) _ now.0 (extends such word_of rs (next d r) _ now.1)

-- With ws filled and us emptied up to d: an emptying makes ws of us,
all_emptied : (m : Master) (r : Raw) (d : Device) (ws us : List Word) → ws ≡ us ++ waiting m d → reset r d ≡ false → emptying_of m r d ≡ true
    → grown (reset r d) (emptying_of m r d) us (held m d) ≡ ws
all_emptied m r d ws us k now x =
    ap₂ (λ (a b : Bool). grown a b us (held m d)) now x ∙ sym (k ∙ ap (λ (b : Bool). us ++ only b (held m d)) (emptying_meets m r d x))

-- so that once the bit is set, what is emptied begins with ws.
pub taken_from : (s : Master) (later : List Raw) (d : Device) (ws us : List Word) → ws ≡ us ++ waiting (partner s) d
    → sees_emptied s d ≡ false → never reset d later ≡ true → sees_emptied s (run_from d later) ≡ true → Begins ws (emptied_from (partner s) d us later)
unfolding run_from listed_from
taken_from s [] d ws us k h n e = absurd (true≢false (sym e ∙ h))
taken_from s (r ∷ rs) d ws us k h n e =
    let m : Master = partner s in
    let now = never_comes reset r rs d n in
    split (emptying_of m r d)
    (λ x.
    subst (λ (l : List Word). Begins ws (emptied_from m (next d r) l rs)) (sym (all_emptied m r d ws us k now.0 x))
    (extends (emptying_of m) (λ (r : Raw) (d : Device). held m d) rs (next d r) ws now.1))
    (λ x.
    begins_grown (reset r d) (fill_of m r d) ws (held m (next d r)) _ now.0
    (taken_from s rs (next d r) _ _ (step_kept m r d ws us k) (sees_clear s r d x h) now.1 e))

pub words_taken : WordsTaken
unfolding filled emptied run
words_taken k s rs later h n e =
    let m : Master = partner s in
    let all = taken_from s later (run k rs) (filled k m rs) (emptied k m rs) (kept k m rs) h n e in
    (all.0, listed_append (emptying_of m) (λ (r : Raw) (d : Device). held m d) rs later (power_up k) [] ∙ all.1)

-- ---- clear until filled

pub empty_next : (m : Master) (r : Raw) (d : Device) → full m d ≡ false → fill_of m r d ≡ false → full m (next d r) ≡ false
empty_next m r d h f =
    split (reset r d) (λ x. ap (λ (b : Mailbox). b.full) (box_reset m r d x))
    (λ x.
    ap (λ (b : Mailbox). b.full) (box_next m r d x)
    ∙ ap₂ (λ (a b : Bool). if a then true else if b then false else full m d) f (empty_no_emptying m r d h)
    ∙ h)

pub clear_from : (s : Master) (later : List Raw) (d : Device)
    → sees_emptied s d ≡ false → full (partner s) d ≡ false → never (fill_of (partner s)) d later ≡ true
    → (sees_emptied s (run_from d later) ≡ false) × (full (partner s) (run_from d later) ≡ false)
unfolding run_from
clear_from s [] d h f n = (h, f)
clear_from s (r ∷ rs) d h f n =
    let m : Master = partner s in
    let fill = never_comes (fill_of m) r rs d n in
    clear_from s rs (next d r) (sees_clear s r d (empty_no_emptying m r d f) h) (empty_next m r d f fill.0) fill.1

pub clear_until_filled : ClearUntilFilled
clear_until_filled k s rs later r h f n =
    let x : Device = run_from (run k rs) later in
    let end = clear_from s later (run k rs) h f n in
    sees_clear s r x (empty_no_emptying (partner s) r x end.1) end.0
