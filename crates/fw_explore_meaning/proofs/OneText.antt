-- What is told is a function of the script and the words: two lists of rows of which the theorem holds are told by one text.
use Rattle.fw_explore_meaning.proofs.Common.{ℕ, zero, suc, ◌≡◌, ◌+◌, ◌<◌, ◌≤◌, List, [], ◌∷◌, ◌++◌, Bool, true, false, length, get_or, map, min, inl, inr, refl, sym, ap, subst, ◌∙◌, arith, codes, All}
use Rattle.fw_explore_meaning.proofs.Common.{AllPairs, Contains, Command, DeskRelations, IsFunction, most_told, Explored, Row, IsCutOff, commands_of, Explores}
use Rattle.std.proofs.Common.{◌⊎◌, ◌==◌}
use Rattle.std.proofs.Common.{Decides, decimal}
use Rattle.std.specs.Set.{is_member}
use Rattle.std.specs.Str.{bytes_eq}
use Rattle.std.specs.Cmp.Lexicographic.{bytes_decides, nat_list_eq_equiv}
use Rattle.std.proofs.lemmas.Bool.{cases_lt}
use Rattle.std.proofs.lemmas.Bool.Decides.{same_from_decides}
use Rattle.std.proofs.lemmas.List.Folds.{list_any_at}
use Rattle.std.proofs.lemmas.Map.Made.{length-from_same_keys}
use Rattle.std.proofs.lemmas.Map.Views.{Contains-from_any}
use Rattle.fw_explore_levels.specs.Counting.{Counts}
use Rattle.fw_explore_told.specs.Sayings.{lines_text}
use Rattle.fw_explore_told.specs.Telling.{remark}
use Rattle.fw_explore_endings.specs.Texts.{counts_text, moves_text, row_text, rows_text, shortest, first_text, devices_text, text_of}
use Rattle.fw_explore_meaning.specs.Endings.{EndsWith}
use Rattle.fw_explore_meaning.specs.Moves.{IsInterleaving}
use Rattle.fw_explore_meaning.specs.Rows.{EndsThere, IsCutThere}
use Rattle.fw_explore_meaning.proofs.FinishLaws.{finishes_one}
use Rattle.fw_explore_meaning.proofs.Partners.{Partner, partner, first_same, not_sooner}

-- ---- the same rows

-- two rows tell the same
pub record TellsSame (r q : Row) : Type 0 where
  pub ending : r.ending.items ≡ q.ending.items
  pub ended : r.ended ≡ q.ended
  pub cut : r.cut ≡ q.cut
  pub first : r.first.items ≡ q.first.items
  pub lines : r.lines.items ≡ q.lines.items

-- how many are so is one number
in_list : (A : List ℕ → Type 0) (n : ℕ) (c : Counts A n) (q : List ℕ) → Decides (is_member bytes_eq c.all q) (A q)
in_list A n c q = (
  (λ t. (c.exactly q).0 (Contains-from_any (λ v w t. (bytes_decides v w).0 t) q c.all t)),
  (λ h. let k = (c.exactly q).1 h in list_any_at (bytes_eq q) c.all k.0 q k.1 (ap (bytes_eq q) k.2 ∙ (bytes_decides q q).1 refl)),
)

pub counts_one_number : (A : List ℕ → Type 0) (m n : ℕ) → Counts A m → Counts A n → m ≡ n
counts_one_number A m n a b =
    a.count ∙ ap (min most_told) (length-from_same_keys nat_list_eq_equiv a.all b.all a.once b.once (λ q. same_from_decides (is_member bytes_eq a.all q) (is_member bytes_eq b.all q) (in_list A m a q)
    (in_list A n b q)))
    ∙ sym b.count

-- ---- rows of which the theorem holds

module _ (D : DeskRelations) (only : IsFunction D) (script : List Command) (x : Explored) (rows others : List Row) (e c l e' c' l' : ℕ) (a : Explores D script x rows e c l) (b : Explores D script x
    others e' c' l') where
  abbrev there : (j : ℕ) → j < length rows → Partner D script x rows others e c l e' c' l' a b j
  there j h = partner D script x rows others e c l e' c' l' a b j h

  -- the partner of a row has its place
  in_place : (j : ℕ) (h : j < length rows) → (there j h).place ≡ j
  in_place j h =
      let p = there j h in
      let back = partner D script x others rows e' c' l' e c l b a p.place p.within in
      let one = a.complete p.row.first.items p.row.ending.items p.is.sound (record { kept = p.is.lines.kept; ends = p.is.lines.ends }) in
      let here : j ≡ one.place = one.only j p.row h (ap (λ (z : Row). z.ending.items) (p.at p.row)) in
      let same : back.row ≡ p.other = sym (back.at p.other) ∙ p.other_at p.other in
      let again : back.place ≡ one.place = one.only back.place p.row back.within
      (ap (λ (z : Row). z.ending.items) (back.other_at p.row) ∙ sym back.ending ∙ ap (λ (z : Row). z.ending.items) same ∙ sym p.ending) in
      let out = not_sooner D script x rows others e c l e' c' l' a b j h in
      let home = not_sooner D script x others rows e' c' l' e c l b a p.place p.within in
      omega (arith, here, again, out, home)

  few : length rows ≤ length others
  few = elim (cases_lt (length others) (length rows)) [
    | inl more ↦ let p = there (length others) more in let at = in_place (length others) more in let within = p.within in absurd (omega (arith, at, within))
    | inr le ↦ le
  ]

  partner_same : (j : ℕ) (p : Partner D script x rows others e c l e' c' l' a b j) → TellsSame p.row p.other
  partner_same j p =
      let firsts = first_same D script x rows others e c l e' c' l' a b j p in
      let its = subst (λ w. EndsWith D script x w p.other.ending.items p.other_is.lines.kept) (sym firsts) p.other_is.lines.ends in
      let kept = finishes_one D script only (commands_of x p.row.first.items) x.following.items x.following.items p.is.lines.ends.written its.written p.is.lines.kept p.other_is.lines.kept
      p.is.lines.ends.refused its.refused
      p.is.lines.ends.finishes its.finishes refl in
      record {
        ending = p.ending;
        ended = counts_one_number (EndsThere D script x p.other.ending.items) p.row.ended p.other.ended (subst (λ z. Counts (EndsThere D script x z) p.row.ended) p.ending p.is.ended) p.other_is.ended;
        cut = counts_one_number (IsCutThere D script x p.other.ending.items) p.row.cut p.other.cut (subst (λ z. Counts (IsCutThere D script x z) p.row.cut) p.ending p.is.cut) p.other_is.cut;
        first = firsts;
        lines = p.is.lines.lines ∙ ap lines_text kept.1 ∙ sym p.other_is.lines.lines;
      }

  row_same : (j : ℕ) (d : Row) → j < length rows → TellsSame (get_or rows j d) (get_or others j d)
  row_same j d h =
      let p = there j h in
      let at : get_or others j d ≡ p.other = ap (λ k. get_or others k d) (sym (in_place j h)) ∙ p.other_at d in
      subst (λ (r : Row). TellsSame r (get_or others j d)) (sym (p.at d)) (subst (λ (q : Row). TellsSame p.row q) (sym at) (partner_same j p))

-- ---- the same text

record AreSame (rows others : List Row) : Type 0 where
  pub size : length rows ≡ length others
  pub each : (k : ℕ) (d : Row) → k < length rows → TellsSame (get_or rows k d) (get_or others k d)

row_text_same : (x : Explored) (number : ℕ) (r q : Row) → TellsSame r q → row_text x number r ≡ row_text x number q
row_text_same x number r q s =
    let P : List ℕ → ℕ → ℕ → List ℕ → List ℕ → List ℕ = λ ending ended cut first lines.
    10 ∷ remark (codes "ending " ++ decimal number ++ codes ": " ++ counts_text ended cut ++ codes "; first in " ++ decimal (length first) ++ codes " moves")
    ++ ending ++ (moves_text x first ++ lines ++ codes "end" ++ 10 ∷ []) in
    ap (λ z. P z r.ended r.cut r.first.items r.lines.items) s.ending ∙ ap (λ z. P q.ending.items z r.cut r.first.items r.lines.items) s.ended
    ∙ ap (λ z. P q.ending.items q.ended z r.first.items r.lines.items) s.cut
    ∙ ap (λ z. P q.ending.items q.ended q.cut z r.lines.items) s.first ∙ ap (λ z. P q.ending.items q.ended q.cut q.first.items z) s.lines

rows_text_same : (x : Explored) (number : ℕ) (rows others : List Row) → AreSame rows others → rows_text x number rows ≡ rows_text x number others
unfolding rows_text
rows_text_same x number [] [] s = refl
rows_text_same x number [] (q ∷ qs) s = let h = s.size in absurd (omega (arith, h))
rows_text_same x number (r ∷ rs) [] s = let h = s.size in absurd (omega (arith, h))
rows_text_same x number (r ∷ rs) (q ∷ qs) s =
    let size = s.size in
    let rest = rows_text_same x (number + 1) rs qs (record { size = omega (arith, size); each = λ k d h. s.each (suc k) d (omega (arith, h)) }) in
    ap (λ z. z ++ rows_text x (number + 1) rs) (row_text_same x number r q (s.each 0 r (omega arith))) ∙ ap (λ z. row_text x number q ++ z) rest

shortest_same : (rows others : List Row) → AreSame rows others → shortest rows ≡ shortest others
shortest_same [] [] s = refl
shortest_same [] (q ∷ qs) s = let h = s.size in absurd (omega (arith, h))
shortest_same (r ∷ rs) [] s = let h = s.size in absurd (omega (arith, h))
shortest_same (r ∷ rs) (q ∷ qs) s = ap length (s.each 0 r (omega arith)).first

-- two lists of rows of which the theorem holds are told by one text
pub one_text : (D : DeskRelations) → IsFunction D → (script : List Command) (x : Explored) (names : List (List ℕ)) (rows others : List Row) (e c l e' c' l' : ℕ) → Explores D script x rows e c l
    → Explores D script x others e' c' l'
    → text_of x names rows e c l ≡ text_of x names others e' c' l'
one_text D only script x names rows others e c l e' c' l' a b =
    let more = few D only script x rows others e c l e' c' l' a b in
    let less = few D only script x others rows e' c' l' e c l b a in
    let same : AreSame rows others = record { size = omega (arith, more, less); each = row_same D only script x rows others e c l e' c' l' a b } in
    let ended = counts_one_number (λ w. IsInterleaving D script x w × (IsCutOff D script x w → ⊥)) e e' a.all_ended b.all_ended in
    let cut = counts_one_number (λ w. IsInterleaving D script x w × IsCutOff D script x w) c c' a.all_cut b.all_cut in
    let one_way = b.bounded a.reached.0 a.reached.1 in
    let other_way = a.bounded b.reached.0 b.reached.1 in
    let here = a.reached.2 in
    let there = b.reached.2 in
    let longest : l ≡ l' = omega (arith, one_way, other_way, here, there) in
    let H : ℕ → ℕ → ℕ → ℕ → ℕ → List ℕ = λ ended cut shortest longest endings.
    remark (codes "interleavings: " ++ counts_text ended cut ++ codes "; moves " ++ decimal shortest ++ codes " to " ++ decimal longest ++ codes
    "; endings " ++ decimal endings) in
    let first : first_text rows e c l ≡ first_text others e' c' l' =
    ap (λ z. H z c (shortest rows) l (length rows)) ended ∙ ap (λ z. H e' z (shortest rows) l (length rows)) cut ∙ ap (λ z. H e' c' z l (length rows)) (shortest_same rows others same)
    ∙ ap (λ z. H e' c' (shortest others) z (length rows)) longest ∙ ap (λ z. H e' c' (shortest others) l' z) same.size in
    ap (λ z. z ++ devices_text x.movers.items names (length names) ++ rows_text x 1 rows) first
    ∙ ap (λ z. first_text others e' c' l' ++ devices_text x.movers.items names (length names) ++ z) (rows_text_same x 1 rows others same)
