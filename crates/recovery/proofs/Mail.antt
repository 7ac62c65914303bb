-- A full box over one event and over many: what BoxChanges of the crate `mail` says of one, where no byte of the sender's is taken.
-- Assumes nothing.
use mathlib.Core.Path.{◌≡◌, refl, ap, ap₂, ◌∙◌}
use mathlib.Core.Bool.{and-false}
use Rattle.std.specs.Prelude.{◌&&◌, ◌∷◌}
use Rattle.ranges.specs.Names.{ℕ, Bool, true, false, not, [], Master, Mailbox, Device, Raw, Event}
use Rattle.arbiter.specs.Words.{partner}
use Rattle.arbiter.specs.Steps.{run_from}
use Rattle.arbiter.specs.AuditWords.{next, accepted, reset}
use Rattle.mail.specs.Words.{box, full, mails_low, mails_high, lowers, fills, low_write_of, fill_of, emptying_of, byte_by}
use Rattle.recovery.specs.Diagnosis.{WordWaits}
use Rattle.arbiter.proofs.Raws.{refuses, takes, met}
use Rattle.arbiter.proofs.Runs.{never_comes}
use Rattle.mail.proofs.Box.{box_by, box_changes}

-- what is said of no event in d is said of no four bytes
unsaid : (such : Event → Device → Bool) (d : Device) (r : Raw) → ((e : Event) → such e d ≡ false) → accepted such r d ≡ false
unsaid such d r none =
    elim (met r d) [
      | refuses x ↦ x.none such
      | takes e x ↦ x.same such ∙ none e
    ]

event_mail : (q : Master) (d : Device) (r : Raw) → full q d ≡ true → reset r d ≡ false → emptying_of q r d ≡ false → box q (next d r) ≡ box q d
event_mail q d r whole ok left =
    let b : Mailbox = box q d in
    let v : ℕ = byte_by (partner q) r in
    let dropped : (x : Bool) → x && not (full q d) ≡ false = λ (x : Bool). ap (λ (f : Bool). x && not f) whole ∙ and-false x in
    let low : low_write_of q r d ≡ false = unsaid (lowers q) d r (λ e. dropped (mails_low q e d)) in
    let high : fill_of q r d ≡ false = unsaid (fills q) d r (λ e. dropped (mails_high q e d)) in
    box_changes q d r
    ∙ ap₂ (λ (x y : Bool). box_by x y (fill_of q r d) (emptying_of q r d) v b) ok low
    ∙ ap₂ (λ (x y : Bool). box_by false false x y v b) high left

pub word_waits : WordWaits
unfolding run_from
word_waits q d [] whole unreset unread = refl
word_waits q d (r ∷ rs) whole unreset unread =
    let ok = never_comes reset r rs d unreset in
    let left = never_comes (emptying_of q) r rs d unread in
    let same = event_mail q d r whole ok.0 left.0 in
    word_waits q (next d r) rs (ap (λ (b : Mailbox). b.full) same ∙ whole) ok.1 left.1 ∙ same
