use Rattle.fw_explore.proofs.Common.{ℕ, ◌≡◌, List, [], ◌∷◌, refl, sym, ap, subst, ◌∙◌, Had}
use Rattle.fw_explore_told.specs.Histories.{first_history}
use Rattle.fw_explore_meaning.proofs.ArriveLaws.{had_kept}
use Rattle.fw_explore.proofs.step.Walker.first_key.Goals as goal

pub returns : goal.returns
returns g c =
    let pasts = c.keep.new.self in
    let number = c.in_ok-number.number in
    record {
      past_at = number;
      machine_at = c.keep-2.new.self.at;
      key_is = c.in_ok-put_key.ensures.key;
      small = c.put_key.ensures.small;
      had = subst (λ z. Had z number first_history) (sym c.put_key.ensures.pasts)
          (subst (Had pasts number) c.new-past.ensures (had_kept c.args.self.now.pasts pasts c.new-past.result number c.in_ok-number.ensures.ok));
      kept = subst (λ z. g.P.Keeper.Kept z c.keep-2.new.self.at c.args.self.now.kept.bus.machine) (sym c.put_key.ensures.places) c.in_ok-keep.ensures.place;
    }
