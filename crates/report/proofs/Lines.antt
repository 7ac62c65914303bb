-- What is printed: a line a controller, and R6 after them past 65,535 traces.
-- Assumes nothing.
use Rattle.std.proofs.Common.{ℕ, ◌+◌, ◌^◌, ◌<◌, ◌≡◌, sym, ap, ◌∙◌, subst, List, [], ◌∷◌, ◌++◌, Bool, true, false, append_assoc, append-nil}
use Rattle.std.specs.declared.option.Option.{Option}
use Rattle.std.specs.Io.KnownBytes.{Appends}
use Rattle.std.specs.Fmt
use Rattle.std.proofs.KnownBytes.{Appends-trans}
use Rattle.std.proofs.lemmas.Fmt.{decimal_digit}
use Rattle.std.specs.Prelude.{if◌then◌else◌}
use Rattle.share.specs.declared.Totals.{Totals}
use Rattle.report.specs.Report.{decimal, field, space, line_end, line, past_line, report_text}
use Rattle.report.proofs.Decimal.{printed_number}

fields : (o c w : ℕ) → decimal o ++ (space ∷ (decimal c ++ (space ∷ (decimal w ++ line_end ∷ [])))) ≡ (field o space ++ field c space) ++ field w line_end
fields o c w =
    sym (append_assoc (field o space) (field c space) (field w line_end)
    ∙ append_assoc (decimal o) (space ∷ []) (field c space ++ field w line_end)
    ∙ ap (λ (l : List ℕ). decimal o ++ (space ∷ l)) (append_assoc (decimal c) (space ∷ []) (field w line_end)))

pub line_printed : (m o c w : ℕ) → m < 10 → o < 2 ^ 64 → c < 2 ^ 64 → w < 2 ^ 64
    → Fmt.decimal m ++ (space ∷ (Fmt.decimal o ++ (space ∷ (Fmt.decimal c ++ (space ∷ (Fmt.decimal w ++ line_end ∷ [])))))) ≡ line m o c w
unfolding line
line_printed m o c w hm ho hc hw =
    ap (λ (l : List ℕ). l ++ (space ∷ (Fmt.decimal o ++ (space ∷ (Fmt.decimal c ++ (space ∷ (Fmt.decimal w ++ line_end ∷ []))))))) (decimal_digit m hm)
    ∙ ap (λ (l : List ℕ). (48 + m) ∷ space ∷ (l ++ (space ∷ (Fmt.decimal c ++ (space ∷ (Fmt.decimal w ++ line_end ∷ [])))))) (printed_number o ho)
    ∙ ap (λ (l : List ℕ). (48 + m) ∷ space ∷ (decimal o ++ (space ∷ (l ++ (space ∷ (Fmt.decimal w ++ line_end ∷ [])))))) (printed_number c hc)
    ∙ ap (λ (l : List ℕ). (48 + m) ∷ space ∷ (decimal o ++ (space ∷ (decimal c ++ (space ∷ (l ++ line_end ∷ [])))))) (printed_number w hw)
    ∙ ap (λ (l : List ℕ). (48 + m) ∷ space ∷ l) (fields o c w)

-- the two lines, with R6 after them or without
module _ (x : Totals) (past : Bool) (a b c : Option (List ℕ)) (first : Appends a b (line 0 x.owned0 x.connected0 x.waited0))
    (second : Appends b c (line 1 x.owned1 x.connected1 x.waited1)) where
  abbrev lines : List ℕ
  lines = line 0 x.owned0 x.connected0 x.waited0 ++ line 1 x.owned1 x.connected1 x.waited1

  both : Appends a c lines
  both = Appends-trans a b c _ _ first second

  with_rest : (t : Bool) → past ≡ t → lines ++ (if t then past_line else []) ≡ report_text x past
  unfolding report_text
  with_rest t h = ap (λ (u : Bool). lines ++ (if u then past_line else [])) (sym h)

  pub without_past : past ≡ false → Appends a c (report_text x past)
  without_past h = subst (Appends a c) (sym (append-nil lines) ∙ with_rest false h) both

  pub with_past : (d : Option (List ℕ)) → past ≡ true → Appends c d past_line → Appends a d (report_text x past)
  with_past d h p = subst (Appends a d) (with_rest true h) (Appends-trans a c d lines past_line both p)
