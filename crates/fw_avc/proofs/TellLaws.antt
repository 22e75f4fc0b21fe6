-- A notice is of the first request whose state has changed.
use Rattle.std.proofs.Common.{◌≡◌, ◌≢◌, Bool, true, false, not, cond, List, [], ◌∷◌, ◌++◌, Option, Some, None, refl, sym, ◌∙◌, ap, subst, arith}
use Rattle.std.specs.Prelude.{find}
use Rattle.std.specs.Option.{option_map}
use Rattle.std.proofs.lemmas.Bool.Decides.{nat_tests}
use Rattle.fw_tape.proofs.RowLaws.{same_codes}
use Rattle.fw_tape.specs.Motion.{transport_of}
use Rattle.fw_avc.specs.declared.notify.Kept.{Kept}
use Rattle.fw_avc.specs.declared.notify.Watched.{Watched}
use Rattle.fw_avc.specs.declared.notify.Watched.TheVariants.{Power, Transport}
use Rattle.fw_avc.specs.State.{UnitState, now_of}
use Rattle.fw_avc.specs.Notices.{same_value, is_changed, told, notice_of, without_first}
use Rattle.fw_avc.specs.Laws.{AllSame, Tells}
use Rattle.fw_avc.proofs.NoticeLaws.{without_first_step, without_first_none}

-- ---- values that are shown alike are the same

same_power : (a b : Bool) → same_value (Power a) (Power b) ≡ true → Power b ≡ Power a
same_power true true e = refl
same_power true false e = cc
same_power false true e = cc
same_power false false e = refl

same_now : (u : UnitState) (v : Watched) → not (same_value v (now_of u v)) ≡ false → now_of u v ≡ v
same_now u (Power on) e = same_power on u.power (shown e)
  where
    shown : {b : Bool} → not b ≡ false → b ≡ true
    shown {b = true} e = refl
    shown {b = false} e = cc
same_now u (Transport t) e = ap Transport (sym (same_codes t (transport_of u.tape) (shown e)))
  where
    shown : {b : Bool} → not b ≡ false → b ≡ true
    shown {b = true} e = refl
    shown {b = false} e = cc

itself : (v : Watched) → same_value v v ≡ true
itself v = grind (arith, nat_tests)

differs : (u : UnitState) (k : Kept) → is_changed u k ≡ true → now_of u k.value ≢ k.value
differs u k e same =
    let alike : same_value k.value (now_of u k.value) ≡ true = ap (λ w. same_value k.value w) same ∙ itself k.value in
    let clash : false ≡ true = ap not (sym alike) ∙ e in
    cc

-- ---- the first of a list

pub record HasFirst (u : UnitState) (ks : List Kept) (k : Kept) (left : List Kept) : Type 0 where
  pub before : List Kept
  pub others : List Kept
  pub all : ks ≡ before ++ k ∷ others
  pub same : AllSame u before
  pub changed : now_of u k.value ≢ k.value
  pub rest : left ≡ before ++ others

abbrev Finds : UnitState → List Kept → List Kept → Option Kept → Type 0
Finds u ks left None = AllSame u ks × (left ≡ ks)
Finds u ks left (Some k) = HasFirst u ks k left

more : (u : UnitState) (k : Kept) (ks left : List Kept) (o : Option Kept) → now_of u k.value ≡ k.value → Finds u ks left o → Finds u (k ∷ ks) (k ∷ left) o
more u k ks left None same h = ((same, h.0), ap (λ l. k ∷ l) h.1)
more u k ks left (Some first) same h = record {
  before = k ∷ h.before;
  others = h.others;
  all = ap (λ l. k ∷ l) h.all;
  same = (same, h.same);
  changed = h.changed;
  rest = ap (λ l. k ∷ l) h.rest;
}

finds : (u : UnitState) (ks : List Kept) → Finds u ks (without_first (is_changed u) ks) (find (is_changed u) ks)
finds u [] = (tt, without_first_none (is_changed u))
finds u (k ∷ ks) = go (is_changed u k) refl (finds u ks)
  where
    go : (b : Bool) → is_changed u k ≡ b → Finds u ks (without_first (is_changed u) ks) (find (is_changed u) ks)
        → Finds u (k ∷ ks) (without_first (is_changed u) (k ∷ ks)) (cond (is_changed u k) (Some k) (find (is_changed u) ks))
    go true e h =
        let P : Bool → Type 0 = λ b. Finds u (k ∷ ks) (without_first (is_changed u) (k ∷ ks)) (cond b (Some k) (find (is_changed u) ks)) in
        let left : without_first (is_changed u) (k ∷ ks) ≡ ks = without_first_step (is_changed u) k ks ∙ ap (λ b. cond b ks (k ∷ without_first (is_changed u) ks)) e in
        subst P (sym e) (record { before = []; others = ks; all = refl; same = tt; changed = differs u k e; rest = left })
    go false e h =
        let P : Bool → Type 0 = λ b. Finds u (k ∷ ks) (without_first (is_changed u) (k ∷ ks)) (cond b (Some k) (find (is_changed u) ks)) in
        let left : without_first (is_changed u) (k ∷ ks) ≡ k ∷ without_first (is_changed u) ks = without_first_step (is_changed u) k ks ∙ ap (λ b. cond b ks (k ∷ without_first (is_changed u) ks)) e in
        let Q : List Kept → Type 0 = λ l. Finds u (k ∷ ks) l (find (is_changed u) ks) in
        subst P (sym e) (subst Q (sym left) (more u k ks (without_first (is_changed u) ks) (find (is_changed u) ks) (same_now u k.value e) h))

pub tells : (u : UnitState) → Tells u (notice_of u)
tells u = go (find (is_changed u) u.kept) (finds u u.kept)
  where
    go : (o : Option Kept) → Finds u u.kept (without_first (is_changed u) u.kept) o → Tells u (option_map (told u) o)
    go None h = (h.0, ap (λ l. let v : UnitState = record u { kept = l } in v) h.1)
    go (Some k) h = record {
      before = h.before;
      kept = k;
      others = h.others;
      all = h.all;
      same = h.same;
      changed = h.changed;
      node = refl;
      frame = refl;
      rest = h.rest;
    }
