-- The first kept request that passes, by its place.
use Rattle.std.proofs.Common.{◌≡◌, ℕ, zero, suc, ◌<◌, Bool, true, false, cond, List, [], ◌∷◌, length, get_or, Some, None, refl, sym, ◌∙◌, ap, arith}
use Rattle.std.specs.Prelude.{find, position, remove}
use Rattle.std.specs.Option.{option_map}
use Rattle.std.proofs.lemmas.List.Quantifiers.{position-Some}
use Rattle.std.proofs.lemmas.Bool.Decides.{nat_tests}
use Rattle.fw_avc.specs.declared.notify.Kept.{Kept}
use Rattle.fw_avc.specs.declared.notify.Watched.{Watched}
use Rattle.fw_avc.specs.declared.notify.Watched.TheVariants.{Power, Transport}
use Rattle.fw_avc.specs.State.{UnitState, now_of}
use Rattle.fw_avc.specs.Notices.{without_first, is_changed, told, notice_of, after_notice}

pub without_first_step : (p : Kept → Bool) (k : Kept) (ks : List Kept) → without_first p (k ∷ ks) ≡ cond (p k) ks (k ∷ without_first p ks)
unfolding without_first
without_first_step p k ks = refl

pub without_first_none : (p : Kept → Bool) → without_first p [] ≡ []
unfolding without_first
without_first_none p = refl

pub record IsFirst (p : Kept → Bool) (ks : List Kept) (i : ℕ) (d : Kept) : Type 0 where
  pub found : find p ks ≡ Some (get_or ks i d)
  pub rest : remove ks i ≡ without_first p ks

is_first : (p : Kept → Bool) (ks : List Kept) (i : ℕ) (d : Kept) → i < length ks → p (get_or ks i d) ≡ true → ((k : ℕ) → k < i → p (get_or ks k d) ≡ false) → IsFirst p ks i d
is_first p [] i d lt here before = let no : ⊥ = omega arith in absurd no
is_first p (k ∷ ks) zero d lt here before = record {
  found = rw here refl;
  rest = sym (without_first_step p k ks ∙ ap (λ b. cond b ks (k ∷ without_first p ks)) here);
}
is_first p (k ∷ ks) (suc i) d lt here before =
    let out : p k ≡ false = before zero (omega arith) in
    let h = is_first p ks i d (omega arith) here (λ j less. before (suc j) (omega arith)) in
    record {
      found = ap (λ b. cond b (Some k) (find p ks)) out ∙ h.found;
      rest = ap (λ r. k ∷ r) h.rest ∙ sym (without_first_step p k ks ∙ ap (λ b. cond b ks (k ∷ without_first p ks)) out);
    }

pub first_at : (p : Kept → Bool) (ks : List Kept) (i : ℕ) (d : Kept) → position p ks ≡ Some i → IsFirst p ks i d
first_at p ks i d e = let h = position-Some p ks i d e in is_first p ks i d h.0 h.1 h.2

pub record HasNone (p : Kept → Bool) (ks : List Kept) : Type 0 where
  pub found : find p ks ≡ None
  pub rest : without_first p ks ≡ ks

pub none_passes : (p : Kept → Bool) (ks : List Kept) → position p ks ≡ None → HasNone p ks
none_passes p [] e = record { found = refl; rest = without_first_none p }
none_passes p (k ∷ ks) e = go (p k) refl (λ later. none_passes p ks later)
  where
    go : (b : Bool) → p k ≡ b → (position p ks ≡ None → HasNone p ks) → HasNone p (k ∷ ks)
    go true is more = let no : ⊥ = grind (arith, nat_tests) in absurd no
    go false is more =
        let later : position p ks ≡ None = grind (arith, nat_tests) in
        let h = more later in
        record {
          found = ap (λ b. cond b (Some k) (find p ks)) is ∙ h.found;
          rest = without_first_step p k ks ∙ ap (λ b. cond b ks (k ∷ without_first p ks)) is ∙ ap (λ r. k ∷ r) h.rest;
        }

-- ---- the notices of a unit

-- a state is the same whichever requests are kept
pub now_of_kept : (u : UnitState) (ks : List Kept) (w : Watched) → now_of (record u { kept = ks }) w ≡ now_of u w
now_of_kept u ks (Power on) = refl
now_of_kept u ks (Transport t) = refl

pub notice_at : (u : UnitState) (i : ℕ) (k : Kept) → position (is_changed u) u.kept ≡ Some i → k ≡ get_or u.kept i k → Some (told u k) ≡ notice_of u
notice_at u i k e is = ap (λ x. Some (told u x)) is ∙ sym (ap (λ o. option_map (told u) o) (first_at (is_changed u) u.kept i k e).found)

pub rest_at : (u : UnitState) (i : ℕ) (k : Kept) (ks : List Kept) → position (is_changed u) u.kept ≡ Some i → ks ≡ remove u.kept i → record u { kept = ks } ≡ after_notice u
rest_at u i k ks e is = ap (λ l. let v : UnitState = record u { kept = l } in v) (is ∙ (first_at (is_changed u) u.kept i k e).rest)

pub no_notice : (u : UnitState) → position (is_changed u) u.kept ≡ None → None ≡ notice_of u
no_notice u e = sym (ap (λ o. option_map (told u) o) (none_passes (is_changed u) u.kept e).found)

pub same_rest : (u : UnitState) → position (is_changed u) u.kept ≡ None → u ≡ after_notice u
same_rest u e = ap (λ l. let v : UnitState = record u { kept = l } in v) (sym (none_passes (is_changed u) u.kept e).rest)
