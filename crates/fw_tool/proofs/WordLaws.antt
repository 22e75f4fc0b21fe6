-- The words of the command line.
use Rattle.std.specs.declared.alloc.Global.{Global}
use Rattle.std.proofs.Common.{◌≡◌, ◌≢◌, ◌≤◌, ◌<◌, ◌^◌, inl, inr, ℕ, length, slice_index_or, take, drop, map, ◌-◌, ap}
use Rattle.std.proofs.Common.{sym, ◌∙◌, string_bytes, String, List, [], ◌∷◌, Option, Some, None, Result, Ok, refl, arith, decimal}
use Rattle.std.proofs.lemmas.Fmt.{parse-decimal}
use Rattle.std.proofs.lemmas.Grind.{common_steps}
use Rattle.std.specs.Str.Parse.{ParsesUnsigned}
use Rattle.fw_log_entry.specs.declared.entry.ResetEntry.{ResetEntry}
use Rattle.fw_log_entry.specs.declared.entry.Timed.{Timed}
use Rattle.fw_log_entry.specs.declared.version.Version.TheVariants.{One}
use Rattle.fw_log_words.specs.Words.{Accepts}
use Rattle.fw_log_reports.specs.Verdicts.{IsSoundLog}
use Rattle.fw_log_words.specs.declared.LogWord.{LogWord}
use Rattle.fw_log_words.specs.declared.LogWord.TheVariants.{Convert, Audit, Holders, Map, Graph}
use Rattle.fw_tool.specs.declared.scripts.ScriptWord.TheVariants.{Run, Trace, Dub, Check}
use Rattle.fw_log_reports.specs.Maps.{HasTree}
use Rattle.fw_log_reports.specs.Trees.{last_reset}
use Rattle.fw_tool.specs.Laws.{HasItsReset}
use Rattle.fw_tool.specs.Words.{Spells, HasSeed, Names, IsExploration, texts}
use Rattle.fw_tool.specs.declared.about.About.TheVariants.{Help, Version}
use Rattle.fw_tool.specs.declared.words.Word.{Word}
use Rattle.fw_tool.specs.declared.words.Word.TheVariants.{Script, Gen, Log, Explore, About}

-- the number that a decimal text is read as
pub read_back : {E : Type 0} (n : ℕ) (text : List ℕ) (r : Result ℕ E) → n < 2 ^ 32 → text ≡ decimal n → ParsesUnsigned 32 10 text r → r ≡ Ok n
read_back n text r small is parses = parse-decimal 32 n text r small (omega (arith, small)) is parses

-- ---- the word `explore`

-- the texts of some words begin with that of the first
pub first_is : (words : List (String Global)) (word : String Global) → 1 ≤ length words → word ≡ slice_index_or words 0 word → (more : List (List ℕ)) × (texts words ≡ string_bytes word ∷ more)
first_is [] word some is = let none : ⊥ = omega (arith, some) in absurd none
first_is (first ∷ more) word some is = (texts more, ap (λ (w : String Global). string_bytes w ∷ texts more) (sym is))

-- the first word has this text, so they are it and others
pub begins : (words : List (String Global)) (word : String Global) (text said : List ℕ) → 1 ≤ length words → word ≡ slice_index_or words 0 word → said ≡ string_bytes word → said ≡ text
    → (more : List (List ℕ)) × (texts words ≡ text ∷ more)
begins words word text said some is spelled same =
    let (more, first) = first_is words word some is in
    (more, first ∙ ap (λ (t : List ℕ). t ∷ more) (sym spelled ∙ same))

map_texts : (words : List (String Global)) → map string_bytes words ≡ texts words
map_texts [] = refl
map_texts (word ∷ words) = ap (λ (ts : List (List ℕ)). string_bytes word ∷ ts) (map_texts words)

-- the words after `explore`, as a pattern gives them
pub rest_is : (words : List (String Global)) (more : List (List ℕ)) → 1 ≤ length words → IsExploration words more → map string_bytes (take (length words - 1) (drop 1 words)) ≡ more
rest_is [] more some form = let none : ⊥ = omega (arith, some) in absurd none
rest_is (first ∷ rest) more some form =
    let whole : take (length (first ∷ rest) - 1) (drop 1 (first ∷ rest)) ≡ rest = grind (arith, common_steps) in
    let same : texts rest ≡ more = cc in
    ap (λ (ws : List (String Global)). map string_bytes ws) whole ∙ map_texts rest ∙ same

-- ---- words of no form

pub names_none : (words : List (List ℕ)) → ((w : Word) → Spells w words → HasSeed w → ⊥) → Names words None
names_none words none w = (λ e. cc e, λ h. absurd (none w h.0 h.1))

-- no form but `explore` has three words
pub many_words : (words : List (String Global)) → 3 ≤ length words → ((more : List (List ℕ)) → IsExploration words more → ⊥) → (w : Word) → Spells w (texts words) → HasSeed w → ⊥
many_words [] many none w e h = omega (arith, many)
many_words (a ∷ []) many none w e h = omega (arith, many)
many_words (a ∷ b ∷ []) many none w e h = omega (arith, many)
many_words (a ∷ b ∷ c ∷ more) many none (Script Run) e h = cc e
many_words (a ∷ b ∷ c ∷ more) many none (Script Trace) e h = cc e
many_words (a ∷ b ∷ c ∷ more) many none (Script Dub) e h = cc e
many_words (a ∷ b ∷ c ∷ more) many none (Script Check) e h = cc e
many_words (a ∷ b ∷ c ∷ more) many none (Gen seed) e h = cc e
many_words (a ∷ b ∷ c ∷ more) many none (Log (Convert One)) e h = cc e
many_words (a ∷ b ∷ c ∷ more) many none (Log _) e h = cc e
many_words (a ∷ b ∷ c ∷ more) many none Explore e h = none e.0 e.1
many_words (a ∷ b ∷ c ∷ more) many none (About Help) (inl e) h = cc e
many_words (a ∷ b ∷ c ∷ more) many none (About Help) (inr (inl e)) h = cc e
many_words (a ∷ b ∷ c ∷ more) many none (About Help) (inr (inr e)) h = cc e
many_words (a ∷ b ∷ c ∷ more) many none (About Version) (inl e) h = cc e
many_words (a ∷ b ∷ c ∷ more) many none (About Version) (inr (inl e)) h = cc e
many_words (a ∷ b ∷ c ∷ more) many none (About Version) (inr (inr e)) h = cc e

-- ---- the logs of runs

some_reset : (o : Option ResetEntry) → o ≢ None → (r : ResetEntry) × (o ≡ Some r)
some_reset None some = absurd (some refl)
some_reset (Some r) some = (r, refl)

pub run_accepted : (word : LogWord) (entries : List Timed) → IsSoundLog entries → ((r : ResetEntry) → last_reset entries ≡ Some r → HasTree entries) → HasItsReset word entries
    → Accepts word entries
run_accepted Audit entries sound trees has = sound
run_accepted Holders entries sound trees has = sound
run_accepted Map entries sound trees has = let r = some_reset (last_reset entries) has in trees r.0 r.1
run_accepted Graph entries sound trees has = let r = some_reset (last_reset entries) has in trees r.0 r.1
run_accepted _ entries sound trees has = tt
