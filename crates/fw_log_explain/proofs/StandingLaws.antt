-- The outstanding requests, and the lines, after one entry more.
use Rattle.std.proofs.Common.{◌≡◌, refl, ap, sym, ◌∙◌, ℕ, List, [], ◌∷◌, ◌++◌, append_assoc}
use Rattle.fw_log_entry.specs.declared.entry.Timed.{Timed}
use Rattle.fw_log_requests.specs.declared.asked.Asked.{Asked}
use Rattle.fw_log_requests.specs.Requests.{standing_after, standing_from, standing}
use Rattle.fw_log_explain.specs.Lines.{line}
use Rattle.fw_log_explain.specs.Explained.{explained}

pub from_more : (list : List Asked) (before : List Timed) (t : Timed) → standing_from list (before ++ t ∷ []) ≡ standing_after t.what (standing_from list before)
from_more list [] t = refl
from_more list (s ∷ before) t = from_more (standing_after s.what list) before t

pub standing_more : (before : List Timed) (t : Timed) → standing (before ++ t ∷ []) ≡ standing_after t.what (standing before)
standing_more before t = from_more [] before t

-- the lines of entries are those of the first ones, and of the others after these
pub explained_more : (before more rest : List Timed) → explained before (more ++ rest) ≡ explained before more ++ explained (before ++ more) rest
explained_more before [] rest = ap (λ (b : List Timed). explained b rest) (sym (nothing_after before))
  where
    nothing_after : (xs : List Timed) → xs ++ [] ≡ xs
    nothing_after [] = refl
    nothing_after (x ∷ xs) = ap (λ ys. x ∷ ys) (nothing_after xs)
explained_more before (t ∷ more) rest =
    let first : List ℕ = line (standing before) t in
    ap (λ (x : List ℕ). first ++ x) (explained_more (before ++ t ∷ []) more rest
    ∙ ap (λ (b : List Timed). explained (before ++ t ∷ []) more ++ explained b rest) (append_assoc before (t ∷ []) more))
    ∙ sym (append_assoc first (explained (before ++ t ∷ []) more) (explained (before ++ t ∷ more) rest))
