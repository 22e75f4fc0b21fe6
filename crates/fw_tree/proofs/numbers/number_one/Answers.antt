use Rattle.fw_tree.proofs.Common.{◌≡◌, Some, None, refl, ap, sym, ◌∙◌, arith, ℕ, ◌+◌, Option, has_number, is_there, number_at}
use Rattle.std.specs.Option.{is_some}
use Rattle.fw_tree.proofs.CountLaws.{counted_most, counted_set}
use Rattle.fw_tree.proofs.TreeLaws.{branch_of, branch_none}
use Rattle.fw_tree.proofs.numbers.number_one.Goals as goal

some_there : (o : Option ℕ) → is_some o ≡ is_there o
some_there None = refl
some_there (Some n) = refl

pub returns-then-is_some-clause-branch : goal.returns-then-is_some-clause-branch
returns-then-is_some-clause-branch c = λ g par root on paths before ports.
    let has : c.is_some.result ≡ has_number c.args.number.now c.args.d = c.is_some.ensures ∙ some_there (number_at c.args.number.now c.args.d) in
    branch_none g par root on paths c.args.d before c.args.number.now (sym has ∙ c.if-is_some.true) ports

pub returns-clause-branch : goal.returns-clause-branch
returns-clause-branch c = λ g par root on paths before ports.
    branch_of g par root on paths c.args.d c.args.next before c.args.number.now (omega (arith, c.told-number, c.requires.device)) c.requires.next ports

pub returns-clause-next : goal.returns-clause-next
returns-clause-next c =
    let has : c.is_some.result ≡ has_number c.args.number.now c.args.d = c.is_some.ensures ∙ some_there (number_at c.args.number.now c.args.d) in
    let free = sym has ∙ c.if-is_some.false in
    ap (λ n. n + 1) c.requires.next ∙ sym (counted_set c.args.number.now c.args.d c.args.next (omega (arith, c.told-number, c.requires.device)) c.requires.device free)

pub overflow_add-result : goal.overflow_add-result
overflow_add-result c = let most = counted_most (has_number c.args.number.now) 63 in let e = c.requires.next in omega arith
