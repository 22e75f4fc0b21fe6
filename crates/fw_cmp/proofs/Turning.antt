-- A job that has begun and is not late goes on from the stage at which it stands.
use Rattle.fw_cmp.proofs.Common.{◌≡◌, ap, sym, ◌∙◌, Current, Asking, Directory, Job, Stage}
use Rattle.fw_cmp.proofs.Common.{ControllerState, slot_at, resumed, resumed_current, going}

-- a controller whose current job does so stays as it is
pub asking_stays : (d : Directory) (c : ControllerState) (j : Job) (t : Stage) → c.current ≡ Asking j t → resumed d (slot_at c j.slot) j t ≡ t → going d c ≡ c
asking_stays d c j t is stays =
    let same : resumed_current c d c.current ≡ c.current = ap (λ (x : Current). resumed_current c d x) is ∙ ap (Asking j) stays ∙ sym is in
    ap (λ (x : Current). record c { current = x }) same
