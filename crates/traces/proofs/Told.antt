-- What a report tells of a call's outcome tells all of it: the outcome comes back from the report.
-- Assumes nothing.
use mathlib.Core.Path.{◌≡◌, ◌∙◌, refl, sym, ap}
use Prim.Native.Nat.{ℕ}
use native.Mathlib.Omega.{arith}
use lib.Dec.{eqb}
use Rattle.std.specs.Prelude.{Result, Ok, Err, if◌then◌else◌}
use Rattle.arbiter.specs.Traces.{kind_number, kind_of, refusal_number}
use Rattle.arbiter.specs.declared.Kind.{Kind}
use Rattle.arbiter.specs.declared.Kind.TheVariants.{Pca9641, Tpt29641}
use Rattle.arbiter.specs.declared.Device.{Device}
use Rattle.arbiter.specs.declared.Refusal.{Refusal}
use Rattle.arbiter.specs.declared.Refusal.TheVariants.{TraceCut, TooManyEvents, BytesAfterEnd, BadStraps, NoRoom, BadCount, UnknownPart}
use Rattle.arbiter.specs.Types.{Ran}
use Rattle.arbiter.specs.Types.{Report}
use Rattle.traces.specs.declared.Head.{Head as Found}
use Rattle.traces.specs.declared.Run.{Run}
use Rattle.traces.specs.declared.Traced.{Traced}
use Rattle.traces.specs.declared.Unanswered.{Unanswered}
use Rattle.traces.specs.declared.Untraced.{Untraced}
use Rattle.traces.specs.Bodies.{Head, ran_of, report_of_run, head_of_run}

-- a refusal by its number
abbrev refusal_of : ℕ → Refusal
refusal_of n =
    if eqb n 5 then TraceCut
    else if eqb n 6 then TooManyEvents
    else if eqb n 7 then BytesAfterEnd
    else if eqb n 8 then BadStraps
    else if eqb n 9 then NoRoom
    else if eqb n 10 then BadCount
    else UnknownPart

-- 0 is the number of what was done, and any other that of a refusal
abbrev outcome : {X E : Type 0} → ℕ → X → (Refusal → E) → Result X E
outcome number x e = if eqb number 0 then Ok x else Err (e (refusal_of number))

pub no_refusal : (why : Refusal) → refusal_number why ≡ 0 → ⊥
no_refusal TraceCut h = omega (arith, h)
no_refusal TooManyEvents h = omega (arith, h)
no_refusal BytesAfterEnd h = omega (arith, h)
no_refusal BadStraps h = omega (arith, h)
no_refusal NoRoom h = omega (arith, h)
no_refusal BadCount h = omega (arith, h)
no_refusal UnknownPart h = omega (arith, h)

refused_back : {X E : Type 0} (x : X) (e : Refusal → E) (why : Refusal) → outcome (refusal_number why) x e ≡ Err (e why)
refused_back x e TraceCut = refl
refused_back x e TooManyEvents = refl
refused_back x e BytesAfterEnd = refl
refused_back x e BadStraps = refl
refused_back x e NoRoom = refl
refused_back x e BadCount = refl
refused_back x e UnknownPart = refl

kind_back : (k : Kind) → kind_of (kind_number k) ≡ k
kind_back Pca9641 = refl
kind_back Tpt29641 = refl

-- ---- the three reports

abbrev ran_back : Ran → Result Run Refusal
ran_back r = outcome r.number (record { events = r.events; device = r.device }) (λ x. x)

ran_whole : (d : Device) (x : Result Run Refusal) → ran_back (ran_of d x) ≡ x
ran_whole d (Ok r) = refl
ran_whole d (Err why) = refused_back _ (λ x. x) why

pub ran_apart : (d : Device) (x y : Result Run Refusal) → ran_of d x ≡ ran_of d y → x ≡ y
ran_apart d x y h = sym (ran_whole d x) ∙ ap ran_back h ∙ ran_whole d y

abbrev traced_with : ℕ → ℕ → Device → Traced
traced_with address events d = record { address = address; events = events; device = d }

abbrev untraced_with : Traced → Refusal → Untraced
untraced_with told why = record { refusal = why; told = told }

abbrev report_back : Report → Result Traced Untraced
report_back r = let told = traced_with r.address r.events r.device in outcome r.number told (untraced_with told)

report_whole : (x : Result Traced Untraced) → report_back (report_of_run x) ≡ x
report_whole (Ok r) = refl
report_whole (Err u) = refused_back _ (untraced_with u.told) u.refusal

pub report_apart : (x y : Result Traced Untraced) → report_of_run x ≡ report_of_run y → x ≡ y
report_apart x y h = sym (report_whole x) ∙ ap report_back h ∙ report_whole y

abbrev head_with : ℕ → ℕ → Kind → Found
head_with address events k = record { address = address; events = events; kind = k }

abbrev unanswered_with : Found → Refusal → Unanswered
unanswered_with told why = record { refusal = why; told = told }

abbrev head_back : Head → Result Found Unanswered
head_back r = let told = head_with r.address r.events (kind_of r.kind) in outcome r.number told (unanswered_with told)

head_whole : (x : Result Found Unanswered) → head_back (head_of_run x) ≡ x
head_whole (Ok h) = ap (λ (k : Kind). Ok (head_with h.address h.events k)) (kind_back h.kind)
head_whole (Err u) =
    let at : Kind → Found = λ k. head_with u.told.address u.told.events k in
    refused_back _ (unanswered_with (at (kind_of (kind_number u.told.kind)))) u.refusal
    ∙ ap (λ (k : Kind). Err (unanswered_with (at k) u.refusal)) (kind_back u.told.kind)

pub head_apart : (x y : Result Found Unanswered) → head_of_run x ≡ head_of_run y → x ≡ y
head_apart x y h = sym (head_whole x) ∙ ap head_back h ∙ head_whole y
