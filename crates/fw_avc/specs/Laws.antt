-- What the definitions of responses and notices come to.
use Rattle.std.specs.Prelude.{◌≡◌, ◌≢◌, ℕ, ◌==◌, ◌||◌, ◌++◌, Bool, List, [], ◌∷◌, Option, Some, None}
use Rattle.fw_fcp.specs.declared.frame.Frame.{Frame}
use Rattle.fw_avc.specs.declared.notify.Kept.{Kept}
use Rattle.fw_avc.specs.State.{UnitState, now_of}
use Rattle.fw_avc.specs.Notices.{changed_frame, after_notice}

-- NOT IMPLEMENTED and REJECTED
abbrev pub is_refusal : ℕ → Bool
is_refusal code = (code == 8) || (code == 0xA)

-- no state has changed since these requests were told of it
abbrev pub AllSame : UnitState → List Kept → Type 0
AllSame u [] = Unit {0}
AllSame u (k ∷ ks) = (now_of u k.value ≡ k.value) × AllSame u ks

-- a notice is of the first request whose state has changed, which then is no longer kept
pub record TellsFirst (u : UnitState) (told : ℕ × Frame) : Type 0 where
  pub before : List Kept
  pub kept : Kept
  pub others : List Kept
  pub all : u.kept ≡ before ++ kept ∷ others
  pub same : AllSame u before
  pub changed : now_of u kept.value ≢ kept.value
  pub node : told.0 ≡ kept.node
  pub frame : told.1 ≡ changed_frame (now_of u kept.value)
  pub rest : (after_notice u).kept ≡ before ++ others

-- there is no notice exactly if no state has changed
abbrev pub Tells : UnitState → Option (ℕ × Frame) → Type 0
Tells u None = AllSame u u.kept × (after_notice u ≡ u)
Tells u (Some told) = TellsFirst u told
