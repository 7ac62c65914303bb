-- A fault plays no part in what a bus gives or hears next: a listener with its fault forgotten goes on as the one of #104 does.
-- Assumes nothing.
use mathlib.Core.Path.{◌≡◌, refl}
use Rattle.capture.specs.OneBus.{is_outside, at_clock, shifted, ended, started, stopped, heard, gives}
use Rattle.capture.specs.declared.Sign.{Sign}
use Rattle.capture.specs.declared.Sign.TheVariants.{Steady, Starts, Stops, Clocks}
use Rattle.std.specs.Prelude.{◌||◌, if◌then◌else◌}
use Rattle.watch.specs.Names.{ℕ, Bool, true, false, ltb, Master, Listener}
use Rattle.watch.specs.Sample.{mended}

pub gives_mended : (m : Master) (g : Sign) (l : Listener) → gives m g (mended l) ≡ gives m g l
unfolding gives
gives_mended m Steady l = refl
gives_mended m Starts l = refl
gives_mended m Stops l = refl
gives_mended m (Clocks b) l = refl

pub heard_mended : (address : ℕ) (g : Sign) (l : Listener) → mended (heard address g (mended l)) ≡ mended (heard address g l)
unfolding heard started stopped at_clock shifted ended
heard_mended address Steady l = refl
heard_mended address Starts l = refl
heard_mended address Stops l = refl
heard_mended address (Clocks b) l = go (is_outside l.awaited) (ltb l.clocks 8)
  where
    go : (outside bits : Bool)
        → mended (if outside then mended l else if bits then shifted b (mended l) else ended address (mended l))
        ≡ mended (if outside then l else if bits then shifted b l else ended address l)
    go true bits = refl
    go false true = refl
    go false false = refl

or_false : (b : Bool) → b ≡ (b || false)
or_false true = refl
or_false false = refl

-- a fault stays, and one that is new does not come of the old
pub heard_broken : (address : ℕ) (g : Sign) (l : Listener) → (heard address g l).broken ≡ (l.broken || (heard address g (mended l)).broken)
unfolding heard started stopped at_clock shifted ended
heard_broken address Steady l = or_false l.broken
heard_broken address Starts l = refl
heard_broken address Stops l = refl
heard_broken address (Clocks b) l = go (is_outside l.awaited) (ltb l.clocks 8)
  where
    go : (outside bits : Bool)
        → (if outside then l else if bits then shifted b l else ended address l).broken
        ≡ (l.broken || (if outside then mended l else if bits then shifted b (mended l) else ended address (mended l)).broken)
    go true bits = or_false l.broken
    go false true = or_false l.broken
    go false false = or_false l.broken
