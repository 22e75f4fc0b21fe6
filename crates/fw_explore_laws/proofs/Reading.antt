-- What the words after `explore` name: lines that have forms, and half steps that may be taken together.
use Rattle.fw_explore_laws.proofs.Common.{ℕ, zero, suc, ◌≡◌, ◌+◌, ◌≤◌, List, [], ◌∷◌, ◌++◌, Some, length, sym, subst, arith, same_Some, HasForm, End, MoverKind, HalfSteps, Once, Explored}
use Rattle.std.proofs.Common.{◌-◌, take, slice_get}
use Rattle.fw_explore_movers.specs.declared.mover.Mover.{Mover}
use Rattle.fw_explore_movers.specs.declared.mover.Line.{Line}
use Rattle.fw_explore_movers.specs.Words.{IsExploredBy, Read, Reads, ReadsAll, nothing_read, number, goes_on, half_steps, line, following, all_read, reads, line_of_half_steps}
use Rattle.fw_explore_laws.proofs.Counts.{HasCounts, IsHalfStep, half_steps_form}
use Rattle.fw_explore_laws.proofs.Decimals.{number_range}

-- a mover takes half steps, whose line with another count is so many; or it is a line that has a form
abbrev pub IsRead : Mover → MoverKind → Type 0
IsRead m HalfSteps = IsHalfStep m.command × HasCounts m.command (take (length m.line.items - 1) m.line.items)
IsRead m Once = HasForm m.command m.line.items × (m.command ≡ End → ⊥) × (length m.line.items ≤ 256)

abbrev pub AreRead : List Mover → Type 0
AreRead [] = Unit {0}
AreRead (m ∷ ms) = IsRead m m.kind × AreRead ms

-- lines have forms
abbrev pub AreForms : List Line → Type 0
AreForms [] = Unit {0}
AreForms (l ∷ ls) = (HasForm l.command l.text.items × (l.command ≡ End → ⊥) × (length l.text.items ≤ 256)) × AreForms ls

movers_then : (ms : List Mover) (m : Mover) → AreRead ms → IsRead m m.kind → AreRead (ms ++ m ∷ [])
movers_then [] m all one = (one, tt)
movers_then (k ∷ ms) m all one = (all.0, movers_then ms m all.1 one)

forms_then : (ls : List Line) (l : Line) → AreForms ls → HasForm l.command l.text.items × (l.command ≡ End → ⊥) × (length l.text.items ≤ 256) → AreForms (ls ++ l ∷ [])
forms_then [] l all one = (one, tt)
forms_then (k ∷ ls) l all one = (all.0, forms_then ls l all.1 one)

-- the mover at a place
pub read_at : (ms : List Mover) (p : ℕ) (m : Mover) → AreRead ms → slice_get ms p ≡ Some m → IsRead m m.kind
read_at [] p m all e = absurd cc
read_at (k ∷ ms) zero m all e = subst (λ (z : Mover). IsRead z z.kind) (same_Some k m e) all.0
read_at (k ∷ ms) (suc p) m all e = read_at ms p m all.1 e

-- what the words so far name
record AreSo (r : Read) : Type 0 where
  most : r.most ≤ 10000
  movers : AreRead r.movers
  lines : AreForms r.following

kind_read : (m : Mover) (k : MoverKind) → m.kind ≡ k → IsRead m k → IsRead m m.kind
kind_read m k e r = subst (IsRead m) (sym e) r

half_read : (word text : List ℕ) (m : Mover) → line_of_half_steps word ≡ Some text → HasForm m.command text → m.line.items ≡ text → IsRead m HalfSteps
half_read word text m e form is =
    let so = half_steps_form word text m.command e form in
    (so.0, subst (λ (l : List ℕ). HasCounts m.command (take (length l - 1) l)) (sym is) so.1)

one_so : (n : ℕ) (word : List ℕ) (r s : Read) → Reads n word r s → AreSo r → AreSo s
one_so n word r s (number {k = k} is value) so = record { most = (number_range 1 10000 word k value).1; movers = so.movers; lines = so.lines }
one_so n word r s (goes_on is first then) so = record { most = so.most; movers = so.movers; lines = so.lines }
one_so n word r s (half_steps {line = text} m is first then steps form same kind at room once) so = record {
  most = so.most;
  movers = movers_then r.movers m so.movers (kind_read m HalfSteps kind (half_read word text m steps form same));
  lines = so.lines;
}
one_so n word r s (line m is first steps short form may same kind at room) so = record {
  most = so.most;
  movers = movers_then r.movers m so.movers (kind_read m Once kind (
    subst (λ (l : List ℕ). HasForm m.command l) (sym same) form.form,
    form.no_end,
    subst (λ (l : List ℕ). length l ≤ 256) (sym same) short,
  ));
  lines = so.lines;
}
one_so n word r s (following l is follows short form may same at room) so = record {
  most = so.most;
  movers = so.movers;
  lines = forms_then r.following l so.lines (subst (λ (t : List ℕ). HasForm l.command t) (sym same) form.form, form.no_end, subst (λ (t : List ℕ). length t ≤ 256) (sym same) short);
}

all_so : (n : ℕ) (words : List (List ℕ)) (r s : Read) → ReadsAll n words r s → AreSo r → AreSo s
all_so n words r s all_read so = so
all_so n words r t (reads {word = w} {words = ws} {s = s} one rest) so = all_so (n + 1) ws s t rest (one_so n w r s one so)

-- what all words name
pub record IsReadSo (x : Explored) : Type 0 where
  pub most : x.most ≤ 10000
  pub movers : AreRead x.movers.items
  pub lines : AreForms x.following.items

pub read_so : (words : List (List ℕ)) (x : Explored) → IsExploredBy words x → IsReadSo x
read_so words x e =
    let so = all_so 1 words nothing_read e.read e.reads_all (record { most = omega arith; movers = tt; lines = tt }) in
    let most = so.most in
    let same = e.most in
    record {
      most = omega (arith, most, same);
      movers = subst AreRead (sym e.movers) so.movers;
      lines = subst AreForms (sym e.following) so.lines;
    }
