use Rattle.fw_async.proofs.Common.{◌≡◌, ◌<◌, ◌≤◌, ℕ, List, length, drop, get_or, eqb, arith, sym, ◌∙◌, subst, ap}
use Rattle.std.specs.List.{IsDistinct}
use Rattle.fw_async.proofs.SenderLaws.{others, first_gone, later_gone, none_gone}
use Rattle.fw_async.proofs.senders.Senders.remove.Goals as goal

pub returns-then-stands_at : goal.returns-then-stands_at
returns-then-stands_at c =
    let q = c.args.sender in
    let items = c.self.inside.numbers.items in
    let P : List ℕ → Type 0 = IsDistinct eqb in
    let same = c.as_slice.ensures.value in
    let less : c.self.inside.gone < length items = rw (sym same) (c.stands_at.ensures.within c.if-stands_at.true) in
    let here : get_or items c.self.inside.gone 0 ≡ q = ap (λ xs. get_or xs c.self.inside.gone 0) (sym same) ∙ c.stands_at.ensures.here c.if-stands_at.true in
    first_gone q items c.self.inside.gone (subst P (sym c.self.view_is) c.requires) less here ∙ ap (others q) c.self.view_is

pub returns-then-at-len : goal.returns-then-at-len
returns-then-at-len c =
    let q = c.args.sender in
    let items = c.self.inside.numbers.items in
    let P : List ℕ → Type 0 = IsDistinct eqb in
    let same = c.as_slice-2.ensures.value in
    let less : c.place_of-at.result < length c.as_slice-2.result.now = rw same (omega (arith, c.if-at-len.true, c.len.ensures.value, ap length same)) in
    let here : get_or items c.place_of-at.result 0 ≡ q = ap (λ xs. get_or xs c.place_of-at.result 0) (sym same) ∙ c.place_of-at.ensures.here less in
    ap (drop c.self.inside.gone) c.remove.ensures.items
    ∙ later_gone q items c.self.inside.gone c.place_of-at.result (subst P (sym c.self.view_is) c.requires) c.place_of-at.ensures.from (omega (arith, less, ap length same)) here
    ∙ ap (others q) c.self.view_is

pub returns-else-at-len : goal.returns-else-at-len
returns-else-at-len c =
    let q = c.args.sender in
    let items = c.self.inside.numbers.items in
    let before = λ (i : ℕ) (from : c.self.inside.gone ≤ i) (less : i < length items) (e : get_or items i 0 ≡ q).
    c.place_of-at.ensures.first i from (omega (arith, less, c.if-at-len.false, c.len.ensures.value)) (ap (λ xs. get_or xs i 0) c.as_slice-2.ensures.value ∙ e) in
    sym c.self.view_is ∙ none_gone q items c.self.inside.gone c.self.invariant before ∙ ap (others q) c.self.view_is
