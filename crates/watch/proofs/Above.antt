-- Which events come from the buses above: all that #104 gives, and neither LINES nor TICKs.
-- Assumes nothing.
use mathlib.Core.Path.{◌≡◌, refl, sym, ap, ◌∙◌}
use mathlib.Core.List.{append-nil}
use Rattle.arbiter.proofs.Choice.{split, if_true, if_false}
use Rattle.capture.specs.OneBus.{byte_gives, gives}
use Rattle.capture.specs.Events.{together}
use Rattle.capture.specs.Samples.{sampled, events_in}
use Rattle.capture.specs.declared.Sign.{Sign}
use Rattle.capture.specs.declared.Sign.TheVariants.{Steady, Starts, Stops, Clocks}
use Rattle.capture.specs.declared.Awaited.{Awaited}
use Rattle.capture.specs.declared.Awaited.TheVariants.{NoByte, AddressByte, CommandByte, WriteByte, ReadByte, CallByte, SkippedByte}
use Rattle.capture.specs.declared.Given.{Given}
use Rattle.capture.specs.declared.Given.TheVariants.{Written, Gives}
use Rattle.std.specs.Prelude.{◌&&◌, ◌∷◌, ◌++◌, if◌then◌else◌, Option, Some, None}
use Rattle.watch.specs.Names.{ℕ, Bool, true, false, not, List, [], eqb, ltb, bit, Master, Zero, One, Event, Write, Lines}
use Rattle.watch.specs.Names.{Tick, Listener, Both, Settings, Ear}
use Rattle.watch.specs.Sample.{below_before, levels_below, lines_given, heard_now, is_timed, is_due, ticks_given, events_at}
use Rattle.watch.specs.Answers.{is_above, above}

pub above_append : (xs ys : List Event) → above (xs ++ ys) ≡ above xs ++ above ys
unfolding above
above_append [] ys = refl
above_append (e ∷ xs) ys =
    split (is_above e)
    (λ t. if_true (e ∷ above (xs ++ ys)) (above (xs ++ ys)) t ∙ ap (λ (l : List Event). e ∷ l) (above_append xs ys)
    ∙ ap (λ (l : List Event). l ++ above ys) (sym (if_true (e ∷ above xs) (above xs) t)))
    (λ f. if_false (e ∷ above (xs ++ ys)) (above (xs ++ ys)) f ∙ above_append xs ys
    ∙ ap (λ (l : List Event). l ++ above ys) (sym (if_false (e ∷ above xs) (above xs) f)))

-- ---- what a bus gives

fine : Option Given → Bool
fine None = true
fine (Some (Written v)) = true
fine (Some (Gives e)) = is_above e

gives_fine : (m : Master) (g : Sign) (l : Listener) → fine (gives m g l) ≡ true
unfolding gives byte_gives is_above fine
gives_fine m Steady l = refl
gives_fine m Starts l = refl
gives_fine m Stops l = split l.owed (λ t. rw t refl) (λ f. rw f refl)
gives_fine m (Clocks b) l = split (ltb l.clocks 8) (λ t. rw t refl) (λ f. rw f (byte l.awaited l.value))
  where
    byte : (a : Awaited) (v : ℕ) → fine (byte_gives m a v) ≡ true
    byte NoByte v = refl
    byte AddressByte v = refl
    byte CommandByte v = refl
    byte WriteByte v = refl
    byte ReadByte v = refl
    byte CallByte v = refl
    byte SkippedByte v = refl

one : (e : Event) (es : List Event) → is_above e ≡ true → above es ≡ es → above (e ∷ es) ≡ e ∷ es
unfolding above
one e es t h = if_true (e ∷ above es) (above es) t ∙ ap (λ (l : List Event). e ∷ l) h

together_fine : (g h : Option Given) → fine g ≡ true → fine h ≡ true → above (together g h) ≡ together g h
unfolding together above is_above fine
together_fine None None p q = refl
together_fine None (Some (Written u)) p q = refl
together_fine None (Some (Gives f)) p q = one f [] q refl
together_fine (Some (Written v)) None p q = refl
together_fine (Some (Written v)) (Some (Written u)) p q = refl
together_fine (Some (Written v)) (Some (Gives f)) p q = ap (λ (l : List Event). Write Zero v ∷ l) (one f [] q refl)
together_fine (Some (Gives e)) None p q = one e [] p refl
together_fine (Some (Gives e)) (Some (Written u)) p q = one e (Write One u ∷ []) p refl
together_fine (Some (Gives e)) (Some (Gives f)) p q = one e (f ∷ []) p (one f [] q refl)

heard_fine : (address before x : ℕ) (s : Both) → above (events_in (sampled address before x s)) ≡ events_in (sampled address before x s)
unfolding sampled
heard_fine address before x s = together_fine _ _ (gives_fine _ _ s.bus0) (gives_fine _ _ s.bus1)

-- ---- a sample

no_lines : (c : Settings) (x : ℕ) (e : Ear) → above (lines_given c x e) ≡ []
unfolding lines_given above is_above
no_lines c x e = go (c.below && not (eqb (below_before e) (levels_below x)))
  where
    go : (b : Bool) → above (if b then Lines (bit 4 x) (bit 5 x) (bit 6 x) ∷ [] else []) ≡ []
    go true = refl
    go false = refl

no_ticks : (c : Settings) (e : Ear) → above (ticks_given c e) ≡ []
unfolding ticks_given above is_above
no_ticks c e = go (is_timed c e && is_due c e)
  where
    go : (b : Bool) → above (if b then Tick ∷ [] else []) ≡ []
    go true = refl
    go false = refl

pub above_at : (c : Settings) (x before since : ℕ) (s : Both)
    → above (events_at c x (record { begun = true; before = before; since = since; both = s })) ≡ events_in (sampled c.address before x s)
unfolding events_at heard_now
above_at c x before since s =
    let e : Ear = record { begun = true; before = before; since = since; both = s } in
    let bus : List Event = events_in (sampled c.address before x s) in
    above_append (lines_given c x e) (bus ++ ticks_given c e) ∙ ap (λ (l : List Event). l ++ above (bus ++ ticks_given c e)) (no_lines c x e)
    ∙ above_append bus (ticks_given c e) ∙ ap (λ (l : List Event). above bus ++ l) (no_ticks c e) ∙ append-nil (above bus)
    ∙ heard_fine c.address before x s

-- the first sample gives nothing above
pub above_first : (c : Settings) (x before since : ℕ) (s : Both)
    → above (events_at c x (record { begun = false; before = before; since = since; both = s })) ≡ []
unfolding events_at heard_now together
above_first c x before since s =
    let e : Ear = record { begun = false; before = before; since = since; both = s } in
    above_append (lines_given c x e) (ticks_given c e) ∙ ap (λ (l : List Event). l ++ above (ticks_given c e)) (no_lines c x e) ∙ no_ticks c e
