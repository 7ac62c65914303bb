-- What each public call of `format` promises leaves room for one result.
-- Assumes nothing.
use mathlib.Core.Path.{◌≡◌, refl}
use contract.Lifetimes.{Lfts}
use denote.Triple.Clauses.{AtExit}
use denote.Triple.Entry.{Args, Res}
use Rattle.arbiter.proofs.Once.{OneResult, OneLeft, once}
use Rattle.format.proofs.events_end.Reads as events-end
use Rattle.format.proofs.whole_bytes.Reads as whole-bytes
use Rattle.format.proofs.pins_in.Reads as pins-in
use Rattle.format.proofs.count_in.Reads as count-in
use Rattle.format.proofs.put_head.Reads as put-head
use Rattle.format.proofs.put_bytes.Reads as put-bytes
use Rattle.format.specs.contracts.events_in.{signature, ended}
use Rattle.format.proofs.events_in.Reads as events-in
use Rattle.format.proofs.event_at.Reads as event-at
use Rattle.format.proofs.kind_count_at.Reads as kind-count-at
use Rattle.format.proofs.kind_at.Reads as kind_at
use Rattle.format.proofs.is_kind.Reads as is_kind_lem
use Rattle.format.proofs.kind_of.Reads as kind-of
use Rattle.format.proofs.kind_number.Reads as kind-number
use Rattle.format.proofs.put_kind.Reads as put-kind
use Rattle.format.proofs.put_answer.Reads as put-answer
use Rattle.format.proofs.byte_at.Reads as byte_at
use Rattle.format.proofs.kind_byte.Reads as kind-byte
use Rattle.format.proofs.refusal_number.Reads as refusal-number

pub events_end_once : OneResult events-end.Post
events_end_once κ a x y s t p q = once p q

pub whole_bytes_once : OneResult whole-bytes.Post
whole_bytes_once κ a x y s t p q = once p q

pub pins_in_once : OneResult pins-in.Post
pins_in_once κ a x y s t p q = once p q

pub count_in_once : OneResult count-in.Post
count_in_once κ a x y s t p q = once p q

pub put_head_once : OneLeft (λ κ s. s.0.now) put-head.Post
put_head_once κ a x y s t p q = (refl, once p q)

pub put_bytes_once : OneLeft (λ κ s. s.0.now) put-bytes.Post
put_bytes_once κ a x y s t p q = (refl, once p q)

-- of the part of a trace that is handed back: what is read there
pub events_in_once : (κ : Lfts 1) (a : Args signature κ) (x y : Res signature κ) (s t : AtExit ended κ) → events-in.Post κ a x s → events-in.Post κ a y t
    → x.now ≡ y.now
events_in_once κ a x y s t p q = once p q

pub event_at_once : OneResult event-at.Post
event_at_once κ a x y s t p q = once p q

pub kind_count_at_once : OneResult kind-count-at.Post
kind_count_at_once κ a x y s t p q = once p q

pub kind_at_once : OneResult kind_at.Post
kind_at_once κ a x y s t p q = once p q

pub is_kind_once : OneResult is_kind_lem.Post
is_kind_once κ a x y s t p q = once p q

pub kind_of_once : OneResult kind-of.Post
kind_of_once κ a x y s t p q = once p q

pub kind_number_once : OneResult kind-number.Post
kind_number_once κ a x y s t p q = once p q

pub put_kind_once : OneLeft (λ κ s. s.0.now) put-kind.Post
put_kind_once κ a x y s t p q = (refl, once p q)

pub put_answer_once : OneLeft (λ κ s. s.0.now) put-answer.Post
put_answer_once κ a x y s t p q = (refl, once p q)

pub byte_at_once : OneResult byte_at.Post
byte_at_once κ a x y s t p q = once p q

pub kind_byte_once : OneResult kind-byte.Post
kind_byte_once κ a x y s t p q = once p q

pub refusal_number_once : OneResult refusal-number.Post
refusal_number_once κ a x y s t p q = once p q
