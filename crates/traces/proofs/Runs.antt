-- One event more at the end of a run: the events, the device after them, their answers, and the answer bytes stored in the buffer. Then
-- what a whole run leaves, accepted or refused.
-- Assumes nothing.
use mathlib.Core.Path.{◌≡◌, ◌∙◌, refl, sym, ap}
use mathlib.Core.Bool.{Bool, true, false, not}
use mathlib.Core.List.{List, [], ◌∷◌, ◌++◌, append_assoc, append-nil}
use Prim.Native.Nat.{ℕ, zero, suc, ◌+◌, ◌*◌, ◌%◌, ◌≤◌, ◌<◌}
use native.Mathlib.Nat.{le_of_eq}
use native.Mathlib.Numerals.{add-one}
use native.Mathlib.Omega.{arith}
use lib.Dec.{ltb, eqb}
use lib.ListN.{length, get_or, set, take, drop, length-append, drop_of_length-le}
use lib.Seq.{drop-cons, set_at, drop-drop, length-take-le}
use borrow.Author.Tests.{eq-eqb, eqb-true, ltb-false, lt-ltb, le-ltb}
use Rattle.std.specs.Prelude.{Result, Ok, Err, if◌then◌else◌}
use Rattle.arbiter.specs.Steps.{step, run_from, answers_from}
use Rattle.arbiter.specs.Traces.{event_bytes, raw_in, raws_in, bytes_of, event_count, ran_number, ran_count, ran, buffer_ran, refusal_number}
use Rattle.arbiter.specs.declared.Refusal.{Refusal}
use Rattle.arbiter.specs.declared.Refusal.TheVariants.{TraceCut, NoRoom}
use Rattle.arbiter.specs.declared.Device.{Device}
use Rattle.arbiter.specs.declared.Raw.{Raw}
use Rattle.arbiter.specs.declared.Answer.{Answer}
use Rattle.arbiter.specs.declared.Stepped.{Stepped}
use Rattle.format.specs.Places.{event_at, put_at, with_answer}
use Rattle.traces.specs.Bodies.{with_room, ran_with}

-- ---- lists with one element more

run_more : (d : Device) (rs : List Raw) (r : Raw) → run_from d (rs ++ r ∷ []) ≡ (step (run_from d rs) r).device
unfolding run_from
run_more d [] r = refl
run_more d (x ∷ rs) r = run_more (step d x).device rs r

pub answers_more : (d : Device) (rs : List Raw) (r : Raw) → answers_from d (rs ++ r ∷ []) ≡ answers_from d rs ++ ((step (run_from d rs) r).answer ∷ [])
unfolding run_from answers_from
answers_more d [] r = refl
answers_more d (x ∷ rs) r = ap (λ (l : List Answer). (step d x).answer ∷ l) (answers_more (step d x).device rs r)

abbrev four : Answer → List ℕ
four a = a.outcome ∷ a.read ∷ a.owner ∷ a.lines ∷ []

bytes_more : (l : List Answer) (a : Answer) → bytes_of (l ++ a ∷ []) ≡ bytes_of l ++ four a
bytes_more [] a = refl
bytes_more (x ∷ l) a = ap (λ (m : List ℕ). x.outcome ∷ x.read ∷ x.owner ∷ x.lines ∷ m) (bytes_more l a)

raws_more : (k : ℕ) (l : List ℕ) → raws_in (suc k) l ≡ raws_in k l ++ (raw_in (drop (event_bytes * k) l) ∷ [])
unfolding raws_in
raws_more zero l = refl
raws_more (suc k) l =
    let rest : List ℕ = drop event_bytes l in
    ap (λ (rs : List Raw). raw_in l ∷ rs) (raws_more k rest)
    ∙ ap (λ (m : List ℕ). raw_in l ∷ (raws_in k rest ++ (raw_in m ∷ []))) (drop-drop (event_bytes * k) event_bytes l ∙ ap (λ (n : ℕ). drop n l) e)
  where
    e : event_bytes + event_bytes * k ≡ event_bytes * suc k
    e = omega arith

pub events_more : (b : List ℕ) (k : ℕ) → k < event_count b → raws_in (k + 1) b ≡ raws_in k b ++ (event_at k b ∷ [])
unfolding event_at
events_more b k h = ap (λ (n : ℕ). raws_in n b) (add-one k) ∙ raws_more k b ∙ simp (lt-ltb k (event_count b) h)

answers_length : (d : Device) (k : ℕ) (l : List ℕ) → length (bytes_of (answers_from d (raws_in k l))) ≡ event_bytes * k
unfolding answers_from raws_in
answers_length d zero l = refl
answers_length d (suc k) l = let h = answers_length (step d (raw_in l)).device k (drop event_bytes l) in omega (arith, h)

-- ---- four bytes stored right after what was written

put_one : (p l : List ℕ) (n m a : ℕ) → length p ≡ n → m ≡ suc n → n < length l → set (p ++ drop n l) n a ≡ (p ++ (a ∷ [])) ++ drop m l
put_one p l n m a e f h =
    ap (λ (r : List ℕ). set (p ++ r) n a) (drop-cons l n 0 h)
    ∙ set_at p (get_or l n 0) (drop (suc n) l) a n e
    ∙ sym (append_assoc p (a ∷ []) (drop (suc n) l))
    ∙ ap (λ (k : ℕ). (p ++ (a ∷ [])) ++ drop k l) (sym f)

longer : (p : List ℕ) (n m a : ℕ) → length p ≡ n → n + 1 ≡ m → length (p ++ (a ∷ [])) ≡ m
longer p n m a e f = simp (length-append, e) f

put_four : (p l : List ℕ) (n : ℕ) (a : Answer) → length p ≡ n → n + 4 ≤ length l → put_at (p ++ drop n l) n a ≡ (p ++ four a) ++ drop (n + 4) l
unfolding put_at
put_four p l n a e h =
    let p1 : List ℕ = p ++ (a.outcome ∷ []) in
    let p2 : List ℕ = p1 ++ (a.read ∷ []) in
    let p3 : List ℕ = p2 ++ (a.owner ∷ []) in
    let l1 : length p1 ≡ n + 1 = longer p n (n + 1) a.outcome e refl in
    let l2 : length p2 ≡ n + 2 = longer p1 (n + 1) (n + 2) a.read l1 (omega arith) in
    let l3 : length p3 ≡ n + 3 = longer p2 (n + 2) (n + 3) a.owner l2 (omega arith) in
    ap (λ (r : List ℕ). set (set (set r (n + 1) a.read) (n + 2) a.owner) (n + 3) a.lines)
    (put_one p l n (n + 1) a.outcome e (omega arith) (omega arith))
    ∙ ap (λ (r : List ℕ). set (set r (n + 2) a.owner) (n + 3) a.lines) (put_one p1 l (n + 1) (n + 2) a.read l1 (omega arith) (omega arith))
    ∙ ap (λ (r : List ℕ). set r (n + 3) a.lines) (put_one p2 l (n + 2) (n + 3) a.owner l2 (omega arith) (omega arith))
    ∙ put_one p3 l (n + 3) (n + 4) a.lines l3 (omega arith) (omega arith)
    ∙ simp append_assoc

-- the same at the place of event k, which the buffer l has
put_next : (p l out : List ℕ) (k : ℕ) (a : Answer) → length p ≡ event_bytes * k → out ≡ p ++ drop (event_bytes * k) l → length out ≡ length l
    → event_bytes * (k + 1) ≤ length l
    → with_answer out k a ≡ (p ++ four a) ++ drop (event_bytes * (k + 1)) l
unfolding with_answer
put_next p l out k a e o same h =
    let place : k < event_count out = omega arith in
    let next : event_bytes * k + 4 ≡ event_bytes * (k + 1) = omega arith in
    simp (lt-ltb k (event_count out) place)
    (ap (λ (r : List ℕ). put_at r (event_bytes * k) a) o
    ∙ put_four p l (event_bytes * k) a e (omega arith)
    ∙ ap (λ (n : ℕ). (p ++ four a) ++ drop n l) next)

-- ---- one turn of the loop: the step's result s at the device d, which is the one after k events

module _ (from : Device) (b : List ℕ) (k : ℕ) (d : Device) (s : Stepped) (more : k < event_count b) (at-k : d ≡ run_from from (raws_in k b))
    (stepped : s ≡ step d (event_at k b)) where
  same_step : s ≡ step (run_from from (raws_in k b)) (event_at k b)
  same_step = stepped ∙ ap (λ (x : Device). step x (event_at k b)) at-k

  pub again_device : s.device ≡ run_from from (raws_in (k + 1) b)
  again_device =
      ap (λ (x : Stepped). x.device) same_step
      ∙ sym (ap (run_from from) (events_more b k more) ∙ run_more from (raws_in k b) (event_at k b))

  answers_again : bytes_of (answers_from from (raws_in (k + 1) b)) ≡ bytes_of (answers_from from (raws_in k b)) ++ four s.answer
  answers_again =
      ap (λ (rs : List Raw). bytes_of (answers_from from rs)) (events_more b k more)
      ∙ ap bytes_of (answers_more from (raws_in k b) (event_at k b))
      ∙ bytes_more (answers_from from (raws_in k b)) (step (run_from from (raws_in k b)) (event_at k b)).answer
      ∙ ap (λ (x : Stepped). bytes_of (answers_from from (raws_in k b)) ++ four x.answer) (sym same_step)

  pub again_out : (l out last : List ℕ) → out ≡ bytes_of (answers_from from (raws_in k b)) ++ drop (event_bytes * k) l → length out ≡ length l → last
      ≡ with_answer out k s.answer → event_bytes * (k + 1) ≤ length l
      → last ≡ bytes_of (answers_from from (raws_in (k + 1) b)) ++ drop (event_bytes * (k + 1)) l
  again_out l out last o same p h =
      p
      ∙ put_next (bytes_of (answers_from from (raws_in k b))) l out k s.answer (answers_length from k b) o same h
      ∙ ap (λ (x : List ℕ). x ++ drop (event_bytes * (k + 1)) l) (sym answers_again)

-- ---- what a whole run leaves: refused for its bytes, refused for the room, or run to the end

-- ---- how many events some bytes are, by the two tests

apart : (n : ℕ) (why : Refusal) → ◌≡◌ {A = Result ℕ Refusal} (Ok n) (Err why) → ⊥
apart n why h = let z : ◌≡◌ {A = ℕ} 0 1 = cc in omega arith

counted_by : (fours short : Bool) (n m : ℕ) → (if not fours then Err TraceCut else if short then Err NoRoom else Ok n) ≡ Ok m
    → (fours ≡ true) × (short ≡ false) × (n ≡ m)
counted_by false short n m h = absurd (apart _ _ (sym h))
counted_by true true n m h = absurd (apart _ _ (sym h))
counted_by true false n m h = (refl, refl, cc)

-- events that are counted are there, and their answers have room
pub roomy : (events : List ℕ) (room n : ℕ) → with_room events room ≡ Ok n → (length events ≡ event_bytes * n) × (event_bytes * n ≤ room)
unfolding with_room
roomy events room n h =
    let p = counted_by (eqb (length events % event_bytes) 0) (ltb room (event_bytes * event_count events)) (event_count events) n h in
    let fours = eqb-true (length events % event_bytes) 0 p.0 in
    let fits = ltb-false room (event_bytes * event_count events) p.1 in
    let same : event_count events ≡ n = p.2 in
    (omega (arith, fours, same), omega (arith, fits, same))

module _ (d : Device) (events buffer : List ℕ) where
  pub refused_ran : (why : Refusal) → with_room events (length buffer) ≡ Err why → (ran_with (refusal_number why) 0 d ≡ ran d events buffer)
      × (buffer ≡ buffer_ran d events buffer)
  unfolding with_room ran buffer_ran ran_number ran_count run_from answers_from raws_in
  refused_ran why h = go (eqb (length events % event_bytes) 0) (ltb (length buffer) (event_bytes * event_count events)) refl refl h
    where
      go : (fours short : Bool) → eqb (length events % event_bytes) 0 ≡ fours → ltb (length buffer) (event_bytes * event_count events) ≡ short
          → (if not fours then Err TraceCut else if short then Err NoRoom else Ok (event_count events)) ≡ Err why
          → (ran_with (refusal_number why) 0 d ≡ ran d events buffer) × (buffer ≡ buffer_ran d events buffer)
      go false short e f g = let s : TraceCut ≡ why = cc in (simp (← s, e), simp e)
      go true true e f g = let s : NoRoom ≡ why = cc in (simp (← s, e, f), simp (e, f))
      go true false e f g = absurd (apart _ _ g)

  module _ (n : ℕ) (whole : length events ≡ event_bytes * n) (fits : event_bytes * n ≤ length buffer) where
    counted : ran_count events (length buffer) ≡ n
    unfolding ran_count ran_number
    counted =
        let fours : length events % event_bytes ≡ 0 = omega arith in
        let count : event_count events ≡ n = omega arith in
        simp (eq-eqb _ _ fours, le-ltb (length buffer) (event_bytes * event_count events) (omega arith)) count

    unrefused : ran_number events (length buffer) ≡ 0
    unfolding ran_number
    unrefused =
        let fours : length events % event_bytes ≡ 0 = omega arith in
        simp (eq-eqb _ _ fours, le-ltb (length buffer) (event_bytes * event_count events) (omega arith))

    pub all-ran : ran_with 0 n (run_from d (raws_in n events)) ≡ ran d events buffer
    unfolding ran
    all-ran = simp (unrefused, counted)

    pub all-answered : bytes_of (answers_from d (raws_in n events)) ++ drop (event_bytes * n) buffer ≡ buffer_ran d events buffer
    unfolding buffer_ran
    all-answered = simp counted

    -- the answers fill the part of the buffer that is theirs, and the rest stays
    pub part-answered : (part : List ℕ) → part ≡ bytes_of (answers_from d (raws_in n events)) ++ drop (event_bytes * n) (take (event_bytes * n) buffer) → part
        ++ drop (event_bytes * n) buffer ≡ buffer_ran d events buffer
    part-answered part e =
        let none : drop (event_bytes * n) (take (event_bytes * n) buffer) ≡ [] =
        drop_of_length-le (take (event_bytes * n) buffer) (le_of_eq (length-take-le (event_bytes * n) buffer fits)) in
        ap (λ (l : List ℕ). l ++ drop (event_bytes * n) buffer)
        (e ∙ ap (λ (l : List ℕ). bytes_of (answers_from d (raws_in n events)) ++ l) none ∙ append-nil (bytes_of (answers_from d (raws_in n events))))
        ∙ all-answered
