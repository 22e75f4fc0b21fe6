-- Lines of half steps: with another count they are the same with that count.
use Rattle.fw_explore_laws.proofs.Common.{ℕ, zero, suc, ◌≡◌, ◌≢◌, ◌+◌, ◌≤◌, ◌<◌, ◌==◌, not, nat_le, List, [], ◌∷◌, ◌++◌, Bool, true, false, Some, None, length, codes, decimal, inl, inr, refl, sym, ap}
use Rattle.fw_explore_laws.proofs.Common.{subst, ◌∙◌, append_assoc, arith, list_all, nat_tests, and_parts, same_Some, HasForm, Command}
use Rattle.std.proofs.Common.{◌-◌, ◌⊎◌, ◌||◌, slice_index}
use Rattle.std.proofs.Common.{take, cond}
use Rattle.std.proofs.Common.{length-append}
use Rattle.std.specs.Char.{is_ascii_lowercase}
use Rattle.std.proofs.lemmas.Fmt.{length-decimal-le}
use Rattle.std.proofs.lemmas.Slice.Eq.{bytes_eq-Decides}
use Rattle.fw_script_command.specs.Form.{HasArguments, first_by}
use Rattle.fw_script_command.specs.Keyword.{keyword_in}
use Rattle.fw_script_command.specs.Pieces.{AreFree, IsFree, separated, pieces}
use Rattle.fw_script_command.specs.Words.{is, is_name, is_name_byte, is_taken, name_in, number_in, only_if}
use Rattle.fw_script_command.specs.declared.command.Command.TheVariants.{Step, Contend}
use Rattle.fw_script_command.specs.declared.keyword.Keyword.{Keyword}
use Rattle.fw_script_command.specs.declared.keyword.Keyword.TheVariants as Keywords
use Rattle.fw_script_command.proofs.PiecesLaws.{pieces_part, pieces_cut, pieces_free}
use Rattle.fw_explore_movers.specs.Words.{half_step_line, line_of_half_steps, takes_steps}
use Rattle.fw_explore_laws.proofs.Decimals.{decimal_all, decimal_read}

-- the same half steps, so many
abbrev pub with_count : ℕ → Command → Command
with_count n (Step name k) = Step name n
with_count n (Contend name k) = Contend name n
with_count n c = c

-- one half step of a controller or of a candidate
abbrev pub IsHalfStep : Command → Type 0
IsHalfStep c = (name : List ℕ) × ((c ≡ Step name 1) ⊎ (c ≡ Contend name 1))

-- the words of a line of half steps, of which the first is one of two
data IsKeyword : List ℕ → Type 0 where
  step : IsKeyword (codes "step")
  contend : IsKeyword (codes "contend")

record StepLine (line : List ℕ) : Type 0 where
  keyword : List ℕ
  name : List ℕ
  is_keyword : IsKeyword keyword
  free : IsFree 32 name
  is : line ≡ (keyword ++ 32 ∷ name ++ 32 ∷ []) ++ 49 ∷ []

some_same : {A : Type 0} (a b : A) → Some a ≡ Some b → a ≡ b
some_same a b e = same_Some a b e

keyword_of : (k : List ℕ) → takes_steps k ≡ true → IsKeyword k
keyword_of k e = go (is (codes "step") k) (is (codes "contend") k) refl refl e
  where
    go : (a b : Bool) → is (codes "step") k ≡ a → is (codes "contend") k ≡ b → (a || b) ≡ true → IsKeyword k
    go true b p q h = subst IsKeyword (sym ((bytes_eq-Decides k (codes "step")).0 p)) step
    go false true p q h = subst IsKeyword (sym ((bytes_eq-Decides k (codes "contend")).0 q)) contend
    go false false p q h = absurd cc

step_line : (word line : List ℕ) (ws : List (List ℕ)) → separated 32 ws ≡ word → AreFree 32 ws → half_step_line ws word ≡ Some line → StepLine line
unfolding half_step_line
step_line word line [] is free e = absurd cc
step_line word line (name ∷ []) is free e = record {
  keyword = codes "step";
  name = name;
  is_keyword = step;
  free = free.0;
  is = sym (some_same (codes "step " ++ word ++ codes " 1") line e) ∙ ap (λ (w : List ℕ). codes "step " ++ w ++ codes " 1") (sym is)
      ∙ ap (λ (w : List ℕ). codes "step " ++ w) (sym (append_assoc name (32 ∷ []) (49 ∷ [])));
}
step_line word line (k ∷ name ∷ []) is free e = go (takes_steps k) refl e
  where
    go : (b : Bool) → takes_steps k ≡ b → cond b (Some (word ++ codes " 1")) None ≡ Some line → StepLine line
    go true t h = record {
      keyword = k;
      name = name;
      is_keyword = keyword_of k t;
      free = free.1.0;
      is = sym (some_same (word ++ codes " 1") line h) ∙ ap (λ (w : List ℕ). w ++ codes " 1") (sym is) ∙ sym (append_assoc (k ++ 32 ∷ name) (32 ∷ []) (49 ∷ []));
    }
    go false t h = absurd cc
step_line word line (k ∷ name ∷ w ∷ ws) is free e = absurd cc

-- ---- its pieces

free_by : (s : ℕ) (w : List ℕ) → list_all (λ b. not (b == s)) w ≡ true → IsFree s w
free_by s [] all k lt = absurd (omega (arith, lt))
free_by s (b ∷ w) all zero lt = differs (and_parts (not (b == s)) (list_all (λ x. not (x == s)) w) all).0
  where
    differs : not (b == s) ≡ true → b ≢ s
    differs e = grind (arith, nat_tests)
free_by s (b ∷ w) all (suc k) lt = free_by s w (and_parts (not (b == s)) (list_all (λ x. not (x == s)) w) all).1 k (omega (arith, lt))

no_space : (d : ℕ) → d < 10 → not (48 + d == 32) ≡ true
no_space d low = grind (arith, nat_tests)

decimal_free : (n : ℕ) → IsFree 32 (decimal n)
decimal_free n = free_by 32 (decimal n) (decimal_all (λ b. not (b == 32)) no_space n)

keyword_free : (k : List ℕ) → IsKeyword k → IsFree 32 k
keyword_free k step = free_by 32 (codes "step") refl
keyword_free k contend = free_by 32 (codes "contend") refl

abbrev pub prefix_of : List ℕ → List ℕ → List ℕ
prefix_of k name = k ++ 32 ∷ name ++ 32 ∷ []

line_pieces : (k name d : List ℕ) → IsFree 32 k → IsFree 32 name → IsFree 32 d → pieces 32 (prefix_of k name ++ d) ≡ k ∷ name ∷ d ∷ []
line_pieces k name d first second third =
    ap (pieces 32) (append_assoc (k ++ 32 ∷ name) (32 ∷ []) d ∙ append_assoc k (32 ∷ name) (32 ∷ d)) ∙ pieces_cut 32 k (name ++ 32 ∷ d) first
    ∙ ap (λ (ws : List (List ℕ)). k ∷ ws) (pieces_cut 32 name d second ∙ ap (λ (ws : List (List ℕ)). name ∷ ws) (pieces_free 32 d third))

take_whole : (n : ℕ) (prefix rest : List ℕ) → n ≡ length prefix → take n (prefix ++ rest) ≡ prefix
take_whole zero [] rest e = refl
take_whole (suc n) [] rest e = absurd (omega (arith, e))
take_whole zero (b ∷ prefix) rest e = absurd (omega (arith, e))
take_whole (suc n) (b ∷ prefix) rest e = ap (λ (l : List ℕ). b ∷ l) (take_whole n prefix rest (omega (arith, e)))

but_last : (prefix line : List ℕ) (b : ℕ) → line ≡ prefix ++ b ∷ [] → take (length line - 1) line ≡ prefix
but_last prefix line b e =
    let size : length line ≡ length prefix + 1 = ap length e ∙ length-append prefix (b ∷ []) in
    ap (take (length line - 1)) e ∙ take_whole (length line - 1) prefix (b ∷ []) (omega (arith, size))

-- ---- its form

abbrev keyword_named : (k : List ℕ) → IsKeyword k → Keyword
keyword_named k step = Keywords.Step
keyword_named k contend = Keywords.Contend

named_so : (k : List ℕ) (is : IsKeyword k) → keyword_in k ≡ Some (keyword_named k is)
named_so k step = refl
named_so k contend = refl

abbrev pub HasCounts : Command → List ℕ → Type 0
HasCounts c prefix = (n : ℕ) → 1 ≤ n → n ≤ 10000 → HasForm (with_count n c) (prefix ++ decimal n) × (length (prefix ++ decimal n) ≤ 256)

-- ---- it is short

name_short : (w a : List ℕ) → name_in w ≡ Some a → length w ≤ 16
name_short w a e = go (is_name w) refl e
  where
    few : nat_le (length w) 16 ≡ true → length w ≤ 16
    few h = grind (arith, nat_tests)

    go : (b : Bool) → is_name w ≡ b → only_if b w ≡ Some a → length w ≤ 16
    go true e h = few (and_parts (nat_le 1 (length w)) (nat_le (length w) 16) (and_parts _ (is_ascii_lowercase (slice_index w 0))
        (and_parts _ (list_all is_name_byte w) (and_parts _ (not (is_taken w)) e).0).0).0).1
    go false e h = absurd cc

keyword_short : (k : List ℕ) → IsKeyword k → length k ≤ 7
keyword_short k step = omega arith
keyword_short k contend = omega arith

line_short : (k name : List ℕ) (n : ℕ) → length k ≤ 7 → length name ≤ 16 → n ≤ 10000 → length (prefix_of k name ++ decimal n) ≤ 256
line_short k name n first second few =
    let digits = length-decimal-le 5 n (omega arith) (omega (arith, few)) (omega (arith, few)) in
    let all = length-append (prefix_of k name) (decimal n) in
    let prefix = length-append (k ++ 32 ∷ name) (32 ∷ []) in
    let words = length-append k (32 ∷ name) in
    omega (arith, digits, all, prefix, words, first, second)

step_counts : (k name : List ℕ) (c : Command) → (is : IsKeyword k) → IsFree 32 name → HasArguments (keyword_named k is) (name ∷ (49 ∷ []) ∷ []) c → IsHalfStep c × HasCounts c (prefix_of k name)
step_counts k name c step free args =
    let one : Some 1 ≡ Some args.4.0 = subst (λ ws. first_by (number_in 1 10000) ws ≡ Some args.4.0) args.3 args.4.2 in
    let is : c ≡ Step args.0 1 = args.4.4.1 ∙ ap (Step args.0) (sym (same_Some 1 args.4.0 one)) in (
      (args.0, inl is),
      (λ n least most. (
        record {
          first = codes "step";
          others = name ∷ decimal n ∷ [];
          keyword = Keywords.Step;
          words = line_pieces (codes "step") name (decimal n) (keyword_free (codes "step") step) free (decimal_free n);
          named = refl;
          arguments = (args.0, decimal n ∷ [], args.2, refl, (n, [], decimal_read 1 10000 n least most (omega (arith, least)) (omega (arith, most)), refl, (refl, ap (with_count n) is)));
        },
        line_short (codes "step") name n (keyword_short (codes "step") step) (name_short name args.0 args.2) most,
      )),
    )
step_counts k name c contend free args =
    let one : Some 1 ≡ Some args.4.0 = subst (λ ws. first_by (number_in 1 10000) ws ≡ Some args.4.0) args.3 args.4.2 in
    let is : c ≡ Contend args.0 1 = args.4.4.1 ∙ ap (Contend args.0) (sym (same_Some 1 args.4.0 one)) in (
      (args.0, inr is),
      (λ n least most. (
        record {
          first = codes "contend";
          others = name ∷ decimal n ∷ [];
          keyword = Keywords.Contend;
          words = line_pieces (codes "contend") name (decimal n) (keyword_free (codes "contend") contend) free (decimal_free n);
          named = refl;
          arguments = (args.0, decimal n ∷ [], args.2, refl, (n, [], decimal_read 1 10000 n least most (omega (arith, least)) (omega (arith, most)), refl, (refl, ap (with_count n) is)));
        },
        line_short (codes "contend") name n (keyword_short (codes "contend") contend) (name_short name args.0 args.2) most,
      )),
    )

line_counts : (c : Command) (line : List ℕ) (s : StepLine line) → HasForm c line → IsHalfStep c × HasCounts c (prefix_of s.keyword s.name)
line_counts c line s h =
    let words : h.first ∷ h.others ≡ s.keyword ∷ s.name ∷ (49 ∷ []) ∷ []
    = sym h.words ∙ ap (pieces 32) s.is ∙ line_pieces s.keyword s.name (49 ∷ []) (keyword_free s.keyword s.is_keyword) s.free (free_by 32 (49 ∷ []) refl) in
    let first : h.first ≡ s.keyword = cc in
    let others : h.others ≡ s.name ∷ (49 ∷ []) ∷ [] = cc in
    let keyword : h.keyword ≡ keyword_named s.keyword s.is_keyword
    = same_Some h.keyword (keyword_named s.keyword s.is_keyword) (sym h.named ∙ ap keyword_in first ∙ named_so s.keyword s.is_keyword) in
    step_counts s.keyword s.name c s.is_keyword s.free
    (subst (λ ws. HasArguments (keyword_named s.keyword s.is_keyword) ws c) others (subst (λ k. HasArguments k h.others c) keyword h.arguments))

-- A mover of half steps takes one, and its line with another count is the command of so many.
pub half_steps_form : (word line : List ℕ) (c : Command) → line_of_half_steps word ≡ Some line → HasForm c line → IsHalfStep c × HasCounts c (take (length line - 1) line)
half_steps_form word line c e form =
    let pieces_are = pieces_part 32 word in
    let s = step_line word line (pieces 32 word) pieces_are.0 pieces_are.1 e in
    let counts = line_counts c line s form in (
      counts.0,
      λ n least most. subst (λ (prefix : List ℕ). HasForm (with_count n c) (prefix ++ decimal n) × (length (prefix ++ decimal n) ≤ 256))
          (sym (but_last (prefix_of s.keyword s.name) line 49 s.is)) (counts.1 n least most),
    )
