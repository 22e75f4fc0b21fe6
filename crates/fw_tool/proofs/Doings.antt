-- What follows of the words that were found.
use Rattle.std.proofs.Common.{◌≡◌, ℕ, Option, Some}
use Rattle.fw_tool.specs.declared.words.Word.{Word}
use Rattle.fw_tool.specs.declared.words.Word.TheVariants.{Script, Gen, Log, Explore, About as Say}
use Rattle.fw_log_words.specs.declared.LogWord.{LogWord}
use Rattle.fw_tool.specs.declared.scripts.ScriptWord.{ScriptWord}
use Rattle.fw_tool.specs.declared.about.About.{About}

-- a word that is found is no other
pub script_not_gen : (o : Option Word) (w : Word) (word : ScriptWord) (seed : ℕ) → o ≡ Some w → w ≡ Script word → o ≡ Some (Gen seed) → ⊥
script_not_gen o w word seed a b c = cc

pub script_not_log : (o : Option Word) (w : Word) (word : ScriptWord) (other : LogWord) → o ≡ Some w → w ≡ Script word → o ≡ Some (Log other) → ⊥
script_not_log o w word other a b c = cc

pub script_not_about : (o : Option Word) (w : Word) (word : ScriptWord) (about : About) → o ≡ Some w → w ≡ Script word → o ≡ Some (Say about) → ⊥
script_not_about o w word about a b c = cc

pub gen_not_script : (o : Option Word) (w : Word) (seed : ℕ) (word : ScriptWord) → o ≡ Some w → w ≡ Gen seed → o ≡ Some (Script word) → ⊥
gen_not_script o w seed word a b c = cc

pub gen_not_log : (o : Option Word) (w : Word) (seed : ℕ) (word : LogWord) → o ≡ Some w → w ≡ Gen seed → o ≡ Some (Log word) → ⊥
gen_not_log o w seed word a b c = cc

pub gen_not_about : (o : Option Word) (w : Word) (seed : ℕ) (about : About) → o ≡ Some w → w ≡ Gen seed → o ≡ Some (Say about) → ⊥
gen_not_about o w seed about a b c = cc

pub log_not_script : (o : Option Word) (w : Word) (word : LogWord) (other : ScriptWord) → o ≡ Some w → w ≡ Log word → o ≡ Some (Script other) → ⊥
log_not_script o w word other a b c = cc

pub log_not_gen : (o : Option Word) (w : Word) (word : LogWord) (seed : ℕ) → o ≡ Some w → w ≡ Log word → o ≡ Some (Gen seed) → ⊥
log_not_gen o w word seed a b c = cc

pub log_not_about : (o : Option Word) (w : Word) (word : LogWord) (about : About) → o ≡ Some w → w ≡ Log word → o ≡ Some (Say about) → ⊥
log_not_about o w word about a b c = cc

pub about_not_script : (o : Option Word) (w : Word) (about : About) (word : ScriptWord) → o ≡ Some w → w ≡ Say about → o ≡ Some (Script word) → ⊥
about_not_script o w about word a b c = cc

pub about_not_gen : (o : Option Word) (w : Word) (about : About) (seed : ℕ) → o ≡ Some w → w ≡ Say about → o ≡ Some (Gen seed) → ⊥
about_not_gen o w about seed a b c = cc

pub about_not_log : (o : Option Word) (w : Word) (about : About) (word : LogWord) → o ≡ Some w → w ≡ Say about → o ≡ Some (Log word) → ⊥
about_not_log o w about word a b c = cc

pub script_not_explore : (o : Option Word) (w : Word) (word : ScriptWord) → o ≡ Some w → w ≡ Script word → o ≡ Some Explore → ⊥
script_not_explore o w word a b c = cc

pub gen_not_explore : (o : Option Word) (w : Word) (seed : ℕ) → o ≡ Some w → w ≡ Gen seed → o ≡ Some Explore → ⊥
gen_not_explore o w seed a b c = cc

pub log_not_explore : (o : Option Word) (w : Word) (word : LogWord) → o ≡ Some w → w ≡ Log word → o ≡ Some Explore → ⊥
log_not_explore o w word a b c = cc

pub about_not_explore : (o : Option Word) (w : Word) (about : About) → o ≡ Some w → w ≡ Say about → o ≡ Some Explore → ⊥
about_not_explore o w about a b c = cc

pub explore_not_script : (o : Option Word) (w : Word) (word : ScriptWord) → o ≡ Some w → w ≡ Explore → o ≡ Some (Script word) → ⊥
explore_not_script o w word a b c = cc

pub explore_not_gen : (o : Option Word) (w : Word) (seed : ℕ) → o ≡ Some w → w ≡ Explore → o ≡ Some (Gen seed) → ⊥
explore_not_gen o w seed a b c = cc

pub explore_not_log : (o : Option Word) (w : Word) (word : LogWord) → o ≡ Some w → w ≡ Explore → o ≡ Some (Log word) → ⊥
explore_not_log o w word a b c = cc

pub explore_not_about : (o : Option Word) (w : Word) (about : About) → o ≡ Some w → w ≡ Explore → o ≡ Some (Say about) → ⊥
explore_not_about o w about a b c = cc

pub one_script : (o : Option Word) (w : Word) (x y : ScriptWord) → o ≡ Some w → w ≡ Script x → o ≡ Some (Script y) → x ≡ y
one_script o w x y a b c = cc

pub one_seed : (o : Option Word) (w : Word) (n m : ℕ) → o ≡ Some w → w ≡ Gen n → o ≡ Some (Gen m) → n ≡ m
one_seed o w n m a b c = cc

pub one_log : (o : Option Word) (w : Word) (x y : LogWord) → o ≡ Some w → w ≡ Log x → o ≡ Some (Log y) → x ≡ y
one_log o w x y a b c = cc

pub one_about : (o : Option Word) (w : Word) (x y : About) → o ≡ Some w → w ≡ Say x → o ≡ Some (Say y) → x ≡ y
one_about o w x y a b c = cc
