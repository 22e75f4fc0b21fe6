-- What a writer has, if it is known, after two pieces.
use Rattle.std.proofs.Common.{ℕ, List, ◌++◌, Some, None, Option, sym, ap, ◌∙◌, append_assoc}
use Rattle.std.specs.Io.KnownBytes.{Appends}
use Rattle.fw_outside.specs.Outside.{AppendsPart}

-- a prefix of the first of two
pub part_then : (old new : Option (List ℕ)) (xs ys : List ℕ) → AppendsPart old new xs → AppendsPart old new (xs ++ ys)
part_then None new xs ys part = tt
part_then (Some o) None xs ys part = absurd part
part_then (Some o) (Some n) xs ys (prefix, rest, parts, grew) =
    (prefix, rest ++ ys, ap (λ (l : List ℕ). l ++ ys) parts ∙ append_assoc prefix rest ys, grew)

-- the first of two, and a prefix of the second
pub then_part : (old mid new : Option (List ℕ)) (xs ys : List ℕ) → Appends old mid xs → AppendsPart mid new ys → AppendsPart old new (xs ++ ys)
then_part None mid new xs ys first part = tt
then_part (Some o) None new xs ys first part = absurd first
then_part (Some o) (Some m) None xs ys first part = absurd part
then_part (Some o) (Some m) (Some n) xs ys first (prefix, rest, parts, grew) =
    (xs ++ prefix, rest, ap (λ (l : List ℕ). xs ++ l) parts ∙ sym (append_assoc xs prefix rest), grew ∙ ap (λ (l : List ℕ). l ++ prefix) first ∙ append_assoc o xs prefix)
