use Rattle.std.proofs.Common.{◌≡◌, true, false, codes, sym, ap, subst, rules}
use Rattle.fw_explore_movers.specs.Words.{Read, Reads, number, goes_on, no_number}
use Rattle.fw_explore_movers.proofs.reading.Reading.take.Goals as goal

pub returns-in-Some : goal.returns-in-Some
returns-in-Some c =
    subst (Reads c.args.number c.args.word.now c.args.self.now) (ap (λ (r : Read). record r { most = c.in-Some.most }) (sym c.self.view_is))
    (number (sym c.if-is_number.ensures) (sym c.in-Some.ensures))

pub returns-in-None : goal.returns-in-None
returns-in-None c = no_number (sym c.if-is_number.ensures) (sym c.in-None.ensures)

pub returns-then-eq : goal.returns-then-eq
returns-then-eq c =
    let then : c.args.word.now ≡ codes "then" = search rules in
    let first : c.args.self.now.follows ≡ false = (let v = ap (λ (r : Read). r.follows) c.self.view_is in cc) in
    subst (Reads c.args.number c.args.word.now c.args.self.now) (ap (λ (r : Read). record r { follows = true }) (sym c.self.view_is))
    (goes_on (sym c.if-is_number.ensures) first then)
