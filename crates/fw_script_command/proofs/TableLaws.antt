-- Words fit the table of forms exactly if they are read as a command.
use Rattle.std.proofs.Common.{◌≡◌, ◌↔◌, ℕ, List, [], ◌∷◌, ◌&&◌, Bool, true, false, Option, Some, None, is_some, inl, inr, refl, sym, ◌∙◌, ap, subst}
use Rattle.std.proofs.lemmas.Bool.{and_parts}
use Rattle.fw_script_command.specs.Form.{HasArguments, Word, Words1, Words2, Words3, Words4, Words5, first_by, after_first}
use Rattle.fw_script_command.specs.Laws.{FormsAreOneTable, KeywordsAreTheirWords}
use Rattle.fw_script_command.specs.Types.{are_fitting, fits, may_lack}
use Rattle.fw_script_command.specs.Words.{name_in, number_in, place_in, kind_in, speed_in, channel_in, system_in, shown_in, offset_in, word_in, frame_in, late_in}
use Rattle.fw_script_command.specs.declared.command.Command.{Command}
use Rattle.fw_script_command.specs.declared.command.Command.TheVariants as Commands
use Rattle.fw_script_command.specs.declared.keyword.Keyword.TheVariants as Keywords
use Rattle.fw_script_command.specs.declared.word_type.WordType.{WordType}
use Rattle.fw_script_command.specs.declared.word_type.WordType.TheVariants.{Name, Shown, Kind, Speed, System, End, Plug, Channel, Offset, Quadlet, Frame, Late, Number}
use Rattle.fw_script_command.specs.declared.word_type.NumberType.TheVariants.{Ports, Overhead, Slot, Count, WrittenCycles, Rounds, Cycles, Tape}

-- a word of the type is what the function reads
record Reads {A : Type 0} (t : WordType) (f : List ℕ → Option A) : Type 0 where
  same : (w : List ℕ) → fits t w ≡ is_some (f w)
  there : may_lack t ≡ false

some_of : {A : Type 0} (o : Option A) → is_some o ≡ true → (a : A) × (o ≡ Some a)
some_of None e = absurd cc
some_of (Some a) e = (a, refl)

some_is : {A : Type 0} (o : Option A) (a : A) → o ≡ Some a → is_some o ≡ true
some_is o a e = ap is_some e

-- the first word is read, and the others fit the other types
one_word : {A : Type 0} (t : WordType) (ts : List WordType) (f : List ℕ → Option A) → Reads t f → (ws : List (List ℕ)) → are_fitting (t ∷ ts) ws ≡ true
    → Word ws f (λ a others. are_fitting ts others ≡ true)
one_word t ts f r [] h = let lacks = r.there in let p = and_parts (may_lack t) (are_fitting ts []) h in absurd cc
one_word t ts f r (w ∷ ws) h =
    let p = and_parts (fits t w) (are_fitting ts ws) h in
    let s = some_of (f w) (sym (r.same w) ∙ p.0) in
    (s.0, ws, s.1, refl, p.1)

and_true : (a b : Bool) → a ≡ true → b ≡ true → (a && b) ≡ true
and_true true b h k = k
and_true false b h k = absurd cc

fits_word : {A : Type 0} (t : WordType) (ts : List WordType) (f : List ℕ → Option A) → Reads t f → (ws : List (List ℕ)) → Word ws f (λ a others. are_fitting ts others ≡ true)
    → are_fitting (t ∷ ts) ws ≡ true
fits_word t ts f r [] x = let e = x.2 in absurd cc
fits_word t ts f r (w ∷ ws) x =
    and_true (fits t w) (are_fitting ts ws) (r.same w ∙ some_is (f w) x.0 x.2) (subst (λ (l : List (List ℕ)). are_fitting ts l ≡ true) x.3 x.4)

no_more : (ws : List (List ℕ)) → are_fitting [] ws ≡ true → ws ≡ []
no_more [] h = refl
no_more (w ∷ ws) h = absurd cc

none_fits : (ws : List (List ℕ)) → ws ≡ [] → are_fitting [] ws ≡ true
none_fits [] e = refl
none_fits (w ∷ ws) e = absurd cc

-- so many words
form1 : {A : Type 0} (t : WordType) (f : List ℕ → Option A) (K : A → Command) → Reads t f → (ws : List (List ℕ))
    → (are_fitting (t ∷ []) ws ≡ true) ↔ ((c : Command) × Words1 ws f (λ a. c ≡ K a))
form1 t f K r ws = (
  (λ h. let x = one_word t [] f r ws h in (K x.0, (x.0, x.1, x.2, x.3, (no_more x.1 x.4, refl)))),
  (λ y. let x = y.1 in fits_word t [] f r ws (x.0, x.1, x.2, x.3, none_fits x.1 x.4.0)),
)

form2 : {A B : Type 0} (t u : WordType) (f : List ℕ → Option A) (g : List ℕ → Option B) (K : A → B → Command) → Reads t f → Reads u g → (ws : List (List ℕ))
    → (are_fitting (t ∷ u ∷ []) ws ≡ true) ↔ ((c : Command) × Words2 ws f g (λ a b. c ≡ K a b))
form2 t u f g K r s ws = (
  (λ h. let x = one_word t (u ∷ []) f r ws h in let y = (form1 u g (K x.0) s x.1).0 x.4 in (y.0, (x.0, x.1, x.2, x.3, y.1))),
  (λ y. let x = y.1 in fits_word t (u ∷ []) f r ws (x.0, x.1, x.2, x.3, (form1 u g (K x.0) s x.1).1 (y.0, x.4))),
)

form3 : {A B C : Type 0} (t u v : WordType) (f : List ℕ → Option A) (g : List ℕ → Option B) (h : List ℕ → Option C) (K : A → B → C → Command) → Reads t f → Reads u g → Reads v h
    → (ws : List (List ℕ)) → (are_fitting (t ∷ u ∷ v ∷ []) ws ≡ true) ↔ ((c : Command) × Words3 ws f g h (λ a b c'. c ≡ K a b c'))
form3 t u v f g h K r s q ws = (
  (λ k. let x = one_word t (u ∷ v ∷ []) f r ws k in let y = (form2 u v g h (K x.0) s q x.1).0 x.4 in (y.0, (x.0, x.1, x.2, x.3, y.1))),
  (λ y. let x = y.1 in fits_word t (u ∷ v ∷ []) f r ws (x.0, x.1, x.2, x.3, (form2 u v g h (K x.0) s q x.1).1 (y.0, x.4))),
)

form4 : {A B C D : Type 0} (t u v w : WordType) (f : List ℕ → Option A) (g : List ℕ → Option B) (h : List ℕ → Option C) (i : List ℕ → Option D) (K : A → B → C → D → Command)
    → Reads t f → Reads u g → Reads v h → Reads w i → (ws : List (List ℕ)) → (are_fitting (t ∷ u ∷ v ∷ w ∷ []) ws ≡ true) ↔ ((c : Command) × Words4 ws f g h i (λ a b c' d. c ≡ K a b c' d))
form4 t u v w f g h i K r s q p ws = (
  (λ k. let x = one_word t (u ∷ v ∷ w ∷ []) f r ws k in let y = (form3 u v w g h i (K x.0) s q p x.1).0 x.4 in (y.0, (x.0, x.1, x.2, x.3, y.1))),
  (λ y. let x = y.1 in fits_word t (u ∷ v ∷ w ∷ []) f r ws (x.0, x.1, x.2, x.3, (form3 u v w g h i (K x.0) s q p x.1).1 (y.0, x.4))),
)

form5 : {A B C D E : Type 0} (t u v w z : WordType) (f : List ℕ → Option A) (g : List ℕ → Option B) (h : List ℕ → Option C) (i : List ℕ → Option D) (j : List ℕ → Option E)
    (K : A → B → C → D → E → Command)
    → Reads t f → Reads u g → Reads v h → Reads w i → Reads z j → (ws : List (List ℕ))
    → (are_fitting (t ∷ u ∷ v ∷ w ∷ z ∷ []) ws ≡ true) ↔ ((c : Command) × Words5 ws f g h i j (λ a b c' d e. c ≡ K a b c' d e))
form5 t u v w z f g h i j K r s q p o ws = (
  (λ k. let x = one_word t (u ∷ v ∷ w ∷ z ∷ []) f r ws k in let y = (form4 u v w z g h i j (K x.0) s q p o x.1).0 x.4 in (y.0, (x.0, x.1, x.2, x.3, y.1))),
  (λ y. let x = y.1 in fits_word t (u ∷ v ∷ w ∷ z ∷ []) f r ws (x.0, x.1, x.2, x.3, (form4 u v w z g h i j (K x.0) s q p o x.1).1 (y.0, x.4))),
)

-- ---- each type

a_name : Reads Name name_in
a_name = record { same = λ w. refl; there = refl }

a_kind : Reads Kind kind_in
a_kind = record { same = λ w. refl; there = refl }

a_speed : Reads Speed speed_in
a_speed = record { same = λ w. refl; there = refl }

a_system : Reads System system_in
a_system = record { same = λ w. refl; there = refl }

an_end : Reads End (place_in 26)
an_end = record { same = λ w. refl; there = refl }

a_plug : Reads Plug (place_in 30)
a_plug = record { same = λ w. refl; there = refl }

a_channel : Reads Channel channel_in
a_channel = record { same = λ w. refl; there = refl }

a_shown : Reads Shown shown_in
a_shown = record { same = λ w. refl; there = refl }

an_offset : Reads Offset offset_in
an_offset = record { same = λ w. refl; there = refl }

a_word : Reads Quadlet word_in
a_word = record { same = λ w. refl; there = refl }

a_frame : Reads Frame frame_in
a_frame = record { same = λ w. refl; there = refl }

-- ---- `die`, whose last word may be missing

die_told : (ws : List (List ℕ)) → are_fitting (Name ∷ Late ∷ []) ws ≡ true → (c : Command) × HasArguments Keywords.Die ws c
die_told ws h = let x = one_word Name (Late ∷ []) name_in a_name ws h in by_more x.0 x.1 x.2 x.3 x.4
  where
    by_more : (a : List ℕ) (others : List (List ℕ)) → first_by name_in ws ≡ Some a → others ≡ after_first ws → are_fitting (Late ∷ []) others ≡ true → (c : Command) × HasArguments Keywords.Die ws c
    by_more a [] e l k = (Commands.Die a false, inl (a, [], e, l, (refl, refl)))
    by_more a (w ∷ more) e l k =
        let p = and_parts (fits Late w) (are_fitting [] more) k in
        let s = some_of (late_in w) p.0 in
        (Commands.Die a true, inr (a, w ∷ more, e, l, (s.0, more, s.1, refl, (no_more more p.1, refl))))

die_fits : (ws : List (List ℕ)) (c : Command) → HasArguments Keywords.Die ws c → are_fitting (Name ∷ Late ∷ []) ws ≡ true
die_fits ws c (inl x) = fits_word Name (Late ∷ []) name_in a_name ws (x.0, x.1, x.2, x.3, subst (λ (l : List (List ℕ)). are_fitting (Late ∷ []) l ≡ true) (sym x.4.0) refl)
die_fits ws c (inr x) = fits_word Name (Late ∷ []) name_in a_name ws (x.0, x.1, x.2, x.3, late_fits x.1 x.4)
  where
    late_fits : (others : List (List ℕ)) → Words1 others late_in (λ late. c ≡ Commands.Die x.0 true) → are_fitting (Late ∷ []) others ≡ true
    late_fits [] y = refl
    late_fits (w ∷ more) y = and_true (fits Late w) (are_fitting [] more) (some_is (late_in w) y.0 y.2) (none_fits more (sym y.3 ∙ y.4.0))

-- ---- each command

alone : (ws : List (List ℕ)) (K : Command) → (are_fitting [] ws ≡ true) ↔ ((c : Command) × ((ws ≡ []) × (c ≡ K)))
alone ws K = ((λ h. (K, (no_more ws h, refl))), (λ x. none_fits ws x.1.0))

pub one_table : FormsAreOneTable
one_table Keywords.Device ws = form4 Name Kind (Number Ports) Speed name_in kind_in (number_in 1 27) speed_in (λ a b c d. Commands.Device a b c d) a_name a_kind
    (record { same = λ w. refl; there = refl }) a_speed ws
one_table Keywords.Cable ws = form2 End End (place_in 26) (place_in 26) (λ a b. Commands.Cable a b) an_end an_end ws
one_table Keywords.Reset ws = form1 Name name_in (λ a. Commands.Reset a) a_name ws
one_table Keywords.Connect ws =
    form5 Name Plug Plug Channel (Number Overhead) name_in (place_in 30) (place_in 30) channel_in (number_in 0 15) (λ a b c d e. Commands.Connect a b c d e) a_name a_plug a_plug a_channel
    (record { same = λ w. refl; there = refl }) ws
one_table Keywords.Broadcast ws = form3 Name Plug (Number Overhead) name_in (place_in 30) (number_in 0 15) (λ a b c. Commands.Broadcast a b c) a_name a_plug
    (record { same = λ w. refl; there = refl }) ws
one_table Keywords.Listen ws = form2 Name Plug name_in (place_in 30) (λ a b. Commands.Listen a b) a_name a_plug ws
one_table Keywords.Break ws = form2 Name (Number Slot) name_in (number_in 0 31) (λ a b. Commands.Break a b) a_name (record { same = λ w. refl; there = refl }) ws
one_table Keywords.Step ws = form2 Name (Number Count) name_in (number_in 1 10000) (λ a b. Commands.Step a b) a_name (record { same = λ w. refl; there = refl }) ws
one_table Keywords.Settle ws = form1 (Number Rounds) (number_in 1 200000) (λ a. Commands.Settle a) (record { same = λ w. refl; there = refl }) ws
one_table Keywords.Wait ws = form1 (Number Cycles) (number_in 0 1000000000) (λ a. Commands.Wait a) (record { same = λ w. refl; there = refl }) ws
one_table Keywords.Cycles ws = form1 (Number WrittenCycles) (number_in 1 8000) (λ a. Commands.Cycles a) (record { same = λ w. refl; there = refl }) ws
one_table Keywords.Die ws = (die_told ws, (λ x. die_fits ws x.0 x.1))
one_table Keywords.Lose ws = form1 Name name_in (λ a. Commands.Lose a) a_name ws
one_table Keywords.Start ws = form1 Name name_in (λ a. Commands.Start a) a_name ws
one_table Keywords.Command ws = form3 Name Name Frame name_in name_in frame_in (λ a b c. Commands.Command a b c) a_name a_name a_frame ws
one_table Keywords.Read ws = form3 Name Name Offset name_in name_in offset_in (λ a b c. Commands.Read a b c) a_name a_name an_offset ws
one_table Keywords.Swap ws = form5 Name Name Offset Quadlet Quadlet name_in name_in offset_in word_in word_in (λ a b c d e. Commands.Swap a b c d e) a_name a_name an_offset a_word a_word ws
one_table Keywords.Insert ws = form3 Name (Number Tape) System name_in (number_in 0 65535) system_in (λ a b c. Commands.Insert a b c) a_name (record { same = λ w. refl; there = refl }) a_system ws
one_table Keywords.Eject ws = form1 Name name_in (λ a. Commands.Eject a) a_name ws
one_table Keywords.Show ws = form2 Shown Offset shown_in offset_in (λ a b. Commands.Show a b) a_shown an_offset ws
one_table Keywords.Withhold ws = alone ws Commands.Withhold
one_table Keywords.Candidate ws = form1 Name name_in (λ a. Commands.Candidate a) a_name ws
one_table Keywords.Contend ws = form2 Name (Number Count) name_in (number_in 1 10000) (λ a b. Commands.Contend a b) a_name (record { same = λ w. refl; there = refl }) ws
one_table Keywords.Dub ws = form1 Name name_in (λ a. Commands.Dub a) a_name ws
one_table Keywords.End ws = alone ws Commands.End

pub own_word : KeywordsAreTheirWords
own_word Keywords.Device = refl
own_word Keywords.Cable = refl
own_word Keywords.Reset = refl
own_word Keywords.Connect = refl
own_word Keywords.Broadcast = refl
own_word Keywords.Listen = refl
own_word Keywords.Break = refl
own_word Keywords.Step = refl
own_word Keywords.Settle = refl
own_word Keywords.Wait = refl
own_word Keywords.Cycles = refl
own_word Keywords.Die = refl
own_word Keywords.Lose = refl
own_word Keywords.Start = refl
own_word Keywords.Command = refl
own_word Keywords.Read = refl
own_word Keywords.Swap = refl
own_word Keywords.Insert = refl
own_word Keywords.Eject = refl
own_word Keywords.Show = refl
own_word Keywords.Withhold = refl
own_word Keywords.Candidate = refl
own_word Keywords.Contend = refl
own_word Keywords.Dub = refl
own_word Keywords.End = refl
