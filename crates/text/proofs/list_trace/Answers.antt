-- `text::list_trace` meets its contract.
-- Assumes nothing.
use Prim.Native.Nat.{ℕ, ◌≤◌}
use mathlib.Core.Path.{sym, subst}
use Rattle.arbiter.specs.Listing.{most_chars}
use Rattle.text.proofs.Listed.{listing_short}
use Rattle.text.proofs.list_trace.Goals as goal

pub returns-clause-upper_bound : goal.returns-clause-upper_bound
returns-clause-upper_bound c =
    let listed = c.list_by.ensures in
    subst (λ (n : ℕ). n ≤ most_chars) (sym listed.0) (listing_short _)
