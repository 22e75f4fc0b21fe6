-- Commands, half steps and histories with one move more.
use Rattle.fw_explore_meaning.proofs.Common.{ℕ, ◌≡◌, ◌+◌, ◌<◌, List, [], ◌∷◌, ◌++◌, length, get_or, Bool, true, false}
use Rattle.fw_explore_meaning.proofs.Common.{map, Option, Some, IsTrue, inl, inr, refl, sym, ap, subst, ◌∙◌, Contains, cases_eq}
use Rattle.fw_explore_meaning.proofs.Common.{same_Some, Timed, Mover, MoverKind, HalfSteps, Once, Explored, IsMover, commands_of, told_entries, AreDone}
use Rattle.std.proofs.Common.{◌↔◌, set, slice_get}
use Rattle.std.proofs.lemmas.List.{map-append, get_or-set_same, get_or-set_other}
use Rattle.std.proofs.lemmas.List.Concat.{flat_map-append}
use Rattle.std.proofs.lemmas.List.Elements.{Contains-append_left, Contains-push, Contains-push_cases}
use Rattle.std.proofs.lemmas.List.Sums.{fold_push}
use Rattle.fw_explore_movers.specs.Explored.{command_in, command_at, half_step_of}
use Rattle.fw_explore_meaning.specs.Moves.{half_steps_in}
use Rattle.fw_explore_told.specs.Histories.{told_in}

pub told_more : (out more : List Timed) → told_entries (out ++ more) ≡ told_entries out ++ told_entries more
told_more out more = flat_map-append (λ t. told_in t.what) out more

-- the two kinds differ
pub apart : (kind : MoverKind) → kind ≡ HalfSteps → kind ≡ Once → ⊥
apart kind e f = let g : HalfSteps ≡ Once = sym e ∙ f in cc g

module _ (x : Explored) (w : List ℕ) (p : ℕ) (m : Mover) (is : IsMover x p m) where
  pub commands_more : commands_of x (w ++ p ∷ []) ≡ commands_of x w ++ m.command ∷ []
  commands_more = map-append (command_at x) w (p ∷ []) ∙ ap (λ o. commands_of x w ++ command_in o ∷ []) is

  pub half_more : half_steps_in x (w ++ p ∷ []) ≡ half_steps_in x w + half_step_of (Some m)
  half_more = fold_push _ 0 w p ∙ ap (λ o. half_steps_in x w + half_step_of o) is

  -- the line of this mover is marked
  pub done_once : (done : List Bool) → p < length done → AreDone x w done → AreDone x (w ++ p ∷ []) (set done p true)
  done_once done less old q n here once = elim (cases_eq q p) [
    | inl same ↦ (λ t. subst (λ z. Contains (w ++ p ∷ []) z) (sym same) (Contains-push w p), λ c. ap (λ z. get_or (set done p true) z false) same ∙ get_or-set_same done p true false less)
    | inr other ↦
        let stays : get_or (set done p true) q false ≡ get_or done q false = get_or-set_other done p q true false other in (
          λ t. Contains-append_left w (p ∷ []) q ((old q n here once).0 (sym stays ∙ t)),
          λ c. elim (Contains-push_cases w p q c) [ inl before ↦ stays ∙ (old q n here once).1 before | inr e ↦ absurd (other (sym e)) ],
        )
  ]

  -- half steps mark none
  pub done_half : (done : List Bool) → m.kind ≡ HalfSteps → AreDone x w done → AreDone x (w ++ p ∷ []) done
  done_half done half old q n here once =
      let differs : q ≡ p → ⊥ = λ e. apart m.kind half (ap (λ o. o.kind) (same_Some m n (sym is ∙ ap (λ z. slice_get x.movers.items z) (sym e) ∙ here)) ∙ once) in (
        λ t. Contains-append_left w (p ∷ []) q ((old q n here once).0 t),
        λ c. elim (Contains-push_cases w p q c) [ inl before ↦ (old q n here once).1 before | inr e ↦ absurd (differs (sym e)) ],
      )
