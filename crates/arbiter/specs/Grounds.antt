-- Request #107: what is shown of the ground on which a claim was won, as statements over every run. proofs/Grounds.antt and proofs/Contests.antt prove them.
-- Assumes nothing.
use Rattle.std.specs.Prelude.{◌≡◌, ◌/◌, ◌%◌, ◌&&◌, ◌||◌, if◌then◌else◌}
use Rattle.arbiter.specs.Types.{ℕ, Bool, true, false, not, List, eqb, Master, Zero, One, Kind, Device, Raw, Pair, Ok}
use Rattle.arbiter.specs.Words.{partner, side}
use Rattle.arbiter.specs.State.{owns, claims}
use Rattle.arbiter.specs.Events.{decode}
use Rattle.arbiter.specs.Steps.{step, run_from, run}
use Rattle.arbiter.specs.AuditWords.{next, requests, throughout}

-- ---- words

-- bits 5 and 6 of the third byte of an answer
abbrev pub ground_bits : ℕ → ℕ
ground_bits b = b / 32 % 4

-- what the answer to r shows of the ground
abbrev pub ground_shown : Raw → Device → ℕ
ground_shown r d = ground_bits (step d r).answer.owner

-- the present claim is m's: m claims, or owns
abbrev pub has_claim : Master → Device → Bool
has_claim m d = claims m d || owns m d

abbrev pub priority : Master → Device → Bool
priority m d = (side m d).contr.priority

-- the priorities of the two differ
abbrev pub differ : Bool → Bool → Bool
differ a b = a && not b || not a && b

-- r makes m's claim: it is m's after r and was not before
abbrev pub claim_made : Master → Raw → Device → Bool
claim_made m r d = not (has_claim m d) && has_claim m (next d r)

-- ---- what is shown

-- "0 with no claimant": the bits are 0 exactly if nobody claims or owns.
abbrev pub GroundWithClaim : Type 0
GroundWithClaim = (k : Kind) (rs : List Raw) (r : Raw) → let d : Device = next (run k rs) r in
    eqb (ground_shown r (run k rs)) 0 ≡ not (has_claim Zero d || has_claim One d)

-- "1 sole requester, 2 priority, 3 last granted": at the event that makes a claim the bits say by what it was won. The partner's request
-- and both priorities are those after the event, as the choice saw them.
abbrev pub chosen_by : Master → Device → ℕ
chosen_by m d = if requests (partner m) d then (if differ (priority Zero d) (priority One d) then 2 else 3) else 1

abbrev pub GroundOfChoice : Type 0
GroundOfChoice =
    (k : Kind) (m : Master) (rs : List Raw) (r : Raw) → claim_made m r (run k rs) ≡ true → ground_shown r (run k rs) ≡ chosen_by m (next (run k rs) r)

-- "kept while the grant lasts": from then on, as long as the claim is m's, every answer shows the same, whatever is requested or written.
abbrev pub GroundStays : Type 0
GroundStays =
    (k : Kind) (m : Master) (rs : List Raw) (r : Raw) (later : List Raw) (t : Raw) → let d : Device = next (run k rs) r in
    let x : Device = run_from d later in
    throughout (has_claim m) d later ≡ true → has_claim m (next x t) ≡ true → ground_shown t x ≡ ground_shown r (run k rs)

-- Grounds 2 and 3 arise from a PAIR alone: by any other event one master asks, and if a claim was there before it, it stays or its master
-- has let go.
abbrev pub ContestIsPair : Type 0
ContestIsPair =
    (k : Kind) (m : Master) (rs : List Raw) (r : Raw) → claim_made m r (run k rs) ≡ true → eqb (ground_shown r (run k rs)) 1 ≡ false
    → (v0 : ℕ) × (v1 : ℕ) × (decode r ≡ Ok (Pair v0 v1))
