-- What is read of a keyword's words.
use Rattle.std.proofs.Common.{◌≡◌, ℕ, List, [], Option, Some, IfNone, true, false, inl, inr, sym, ◌∙◌, subst}
use Rattle.fw_script_command.specs.Form.{HasArguments, HasForm, first_by, Words1, Words2, Words3, Words4, Words5}
use Rattle.fw_script_command.specs.Words.{name_in, number_in, place_in, kind_in, speed_in, channel_in, system_in, shown_in, offset_in, word_in, frame_in, late_in}
use Rattle.fw_script_command.specs.declared.keyword.Keyword.{Keyword}
use Rattle.fw_script_command.specs.declared.keyword.Keyword.TheVariants.{Device, Cable, Reset, Connect, Broadcast, Listen, Break, Step, Settle, Wait, Cycles, Die, Lose}
use Rattle.fw_script_command.specs.declared.keyword.Keyword.TheVariants.{Start, Command as CommandWord, Read, Swap, Insert, Eject, Show, Withhold, Candidate, Contend, Dub, End}
use Rattle.fw_script_command.specs.declared.command.Command.{Command}
use Rattle.fw_script_command.specs.declared.command.Command.TheVariants as Commands

-- if nothing is read, the words after the keyword are no command
abbrev pub HasNone : Keyword → List (List ℕ) → Option Unit → Type 0
HasNone k ws r = IfNone r ((c : Command) → HasArguments k ws c → ⊥)

pub of_keyword : (k j : Keyword) (ws : List (List ℕ)) (r : Option Unit) → k ≡ j → HasNone j ws r → HasNone k ws r
of_keyword k j ws r is none = subst (λ (i : Keyword). HasNone i ws r) (sym is) none

same1 : {A : Type 0} (f : List ℕ → Option A) (K : A → Command) (ws : List (List ℕ)) (c d : Command) → Words1 ws f (λ u. c ≡ K u) → Words1 ws f (λ u. d ≡ K u) → c ≡ d
same1 f K ws c d m n = cc

same2 : {A B : Type 0} (f : List ℕ → Option A) (g : List ℕ → Option B) (K : A → B → Command) (ws : List (List ℕ)) (c d : Command) → Words2 ws f g (λ u v. c ≡ K u v) → Words2 ws f g (λ u v. d ≡ K u v)
    → c ≡ d
same2 f g K ws c d m n = cc

same3 : {A B C : Type 0} (f : List ℕ → Option A) (g : List ℕ → Option B) (h : List ℕ → Option C) (K : A → B → C → Command) (ws : List (List ℕ)) (c d : Command) → Words3 ws f g h (λ u v w. c ≡ K u v w)
    → Words3 ws f g h (λ u v w. d ≡ K u v w) → c ≡ d
same3 f g h K ws c d m n = cc

same4 : {A B C D : Type 0} (f : List ℕ → Option A) (g : List ℕ → Option B) (h : List ℕ → Option C) (i : List ℕ → Option D) (K : A → B → C → D → Command) (ws : List (List ℕ)) (c d : Command)
    → Words4 ws f g h i (λ u v w x. c ≡ K u v w x) → Words4 ws f g h i (λ u v w x. d ≡ K u v w x) → c ≡ d
same4 f g h i K ws c d m n = cc

same5 : {A B C D E : Type 0} (f : List ℕ → Option A) (g : List ℕ → Option B) (h : List ℕ → Option C) (i : List ℕ → Option D) (j : List ℕ → Option E) (K : A → B → C → D → E → Command)
    (ws : List (List ℕ)) (c d : Command) → Words5 ws f g h i j (λ u v w x y. c ≡ K u v w x y) → Words5 ws f g h i j (λ u v w x y. d ≡ K u v w x y) → c ≡ d
same5 f g h i j K ws c d m n = cc

nothing_read : {A : Type 0} (f : List ℕ → Option A) (ws : List (List ℕ)) (a : A) → ws ≡ [] → first_by f ws ≡ Some a → ⊥
nothing_read f ws a none read = let h : first_by f [] ≡ Some a = subst (λ (l : List (List ℕ)). first_by f l ≡ Some a) none read in cc

-- the words after a keyword are those of one command
pub same_arguments : (k : Keyword) (ws : List (List ℕ)) (c d : Command) → HasArguments k ws c → HasArguments k ws d → c ≡ d
same_arguments Device ws c d h e = same4 name_in kind_in (number_in 1 27) speed_in (λ u v w x. Commands.Device u v w x) ws c d h e
same_arguments Cable ws c d h e = same2 (place_in 26) (place_in 26) (λ u v. Commands.Cable u v) ws c d h e
same_arguments Reset ws c d h e = same1 name_in (λ u. Commands.Reset u) ws c d h e
same_arguments Connect ws c d h e = same5 name_in (place_in 30) (place_in 30) channel_in (number_in 0 15) (λ u v w x y. Commands.Connect u v w x y) ws c d h e
same_arguments Broadcast ws c d h e = same3 name_in (place_in 30) (number_in 0 15) (λ u v w. Commands.Broadcast u v w) ws c d h e
same_arguments Listen ws c d h e = same2 name_in (place_in 30) (λ u v. Commands.Listen u v) ws c d h e
same_arguments Break ws c d h e = same2 name_in (number_in 0 31) (λ u v. Commands.Break u v) ws c d h e
same_arguments Step ws c d h e = same2 name_in (number_in 1 10000) (λ u v. Commands.Step u v) ws c d h e
same_arguments Settle ws c d h e = same1 (number_in 1 200000) (λ u. Commands.Settle u) ws c d h e
same_arguments Wait ws c d h e = same1 (number_in 0 1000000000) (λ u. Commands.Wait u) ws c d h e
same_arguments Cycles ws c d h e = same1 (number_in 1 8000) (λ u. Commands.Cycles u) ws c d h e
same_arguments Die ws c d (inl h) (inl e) = same1 name_in (λ n. Commands.Die n false) ws c d h e
same_arguments Die ws c d (inl h) (inr e) = absurd (nothing_read late_in e.1 e.4.0 (e.3 ∙ sym h.3 ∙ h.4.0) e.4.2)
same_arguments Die ws c d (inr h) (inl e) = absurd (nothing_read late_in h.1 h.4.0 (h.3 ∙ sym e.3 ∙ e.4.0) h.4.2)
same_arguments Die ws c d (inr h) (inr e) = same2 name_in late_in (λ n late. Commands.Die n true) ws c d h e
same_arguments Lose ws c d h e = same1 name_in (λ u. Commands.Lose u) ws c d h e
same_arguments Start ws c d h e = same1 name_in (λ u. Commands.Start u) ws c d h e
same_arguments CommandWord ws c d h e = same3 name_in name_in frame_in (λ u v w. Commands.Command u v w) ws c d h e
same_arguments Read ws c d h e = same3 name_in name_in offset_in (λ u v w. Commands.Read u v w) ws c d h e
same_arguments Swap ws c d h e = same5 name_in name_in offset_in word_in word_in (λ u v w x y. Commands.Swap u v w x y) ws c d h e
same_arguments Insert ws c d h e = same3 name_in (number_in 0 65535) system_in (λ u v w. Commands.Insert u v w) ws c d h e
same_arguments Eject ws c d h e = same1 name_in (λ u. Commands.Eject u) ws c d h e
same_arguments Show ws c d h e = same2 shown_in offset_in (λ u v. Commands.Show u v) ws c d h e
same_arguments Withhold ws c d h e = h.1 ∙ sym e.1
same_arguments Candidate ws c d h e = same1 name_in (λ u. Commands.Candidate u) ws c d h e
same_arguments Contend ws c d h e = same2 name_in (number_in 1 10000) (λ u v. Commands.Contend u v) ws c d h e
same_arguments Dub ws c d h e = same1 name_in (λ u. Commands.Dub u) ws c d h e
same_arguments End ws c d h e = h.1 ∙ sym e.1

-- a line is one command at most
pub one_form : (c d : Command) (line : List ℕ) → HasForm c line → HasForm d line → c ≡ d
one_form c d line h e =
    let separated = sym h.words ∙ e.words in
    let first : h.first ≡ e.first = cc in
    let others : h.others ≡ e.others = cc in
    let keyword : h.keyword ≡ e.keyword = cc in
    let P : Keyword → Type 0 = λ k. HasArguments k e.others c in
    let Q : List (List ℕ) → Type 0 = λ ws. HasArguments h.keyword ws c in
    same_arguments e.keyword e.others c d (subst P keyword (subst Q others h.arguments)) e.arguments
