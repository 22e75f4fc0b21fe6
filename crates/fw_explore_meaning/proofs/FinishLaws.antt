-- What is told after an interleaving is one text, if the desk is a function.
use Rattle.fw_explore_meaning.proofs.Common.{ℕ, ◌≡◌, List, [], ◌∷◌, ◌++◌, codes, Err, refl, sym, ap, subst}
use Rattle.fw_explore_meaning.proofs.Common.{◌∙◌, Timed, Command, DeskRelations, IsFunction, Decides, RuleFault, Line, Explored, Subsequent, Moves}
use Rattle.fw_explore_meaning.proofs.Common.{commands_of, Comes}
use Rattle.fw_model_run.proofs.Rules.{one_answer}
use Rattle.fw_explore_levels.proofs.TableLaws.{HasOneKey}
use Rattle.fw_explore_meaning.specs.Names.{rule_name}
use Rattle.fw_explore_meaning.specs.Endings.{Finishes, done, carried, refuses}
use Rattle.fw_explore_told.specs.Telling.{remark, told, left_out}
use Rattle.fw_explore_meaning.proofs.AfterLaws.{following_one, moves_one, not_refused}

module _ (D : DeskRelations) (script : List Command) (only : IsFunction D) where
  pub finishes_one : (cs : List Command) (lines lines' : List Line) (out other : List Timed) (kept others : List Line) (refused refuseds : List ℕ)
      → Finishes D script cs lines out kept refused → Finishes D script cs lines' other others refuseds → lines ≡ lines' → (out ≡ other) × (kept ≡ others) × (refused ≡ refuseds)
  finishes_one cs lines lines' out other kept others refused refuseds done done e = (refl, refl, refl)
  finishes_one cs lines lines' out other kept others refused refuseds done (carried line m f) e = absurd (cc e)
  finishes_one cs lines lines' out other kept others refused refuseds done (refuses line rule b d f) e = absurd (cc e)
  finishes_one cs lines lines' out other kept others refused refuseds (carried line m f) done e = absurd (cc e)
  finishes_one cs lines lines' out other kept others refused refuseds (refuses line rule b d f) done e = absurd (cc e)
  finishes_one cs lines lines' out other kept others refused refuseds (carried {lines = ls} {kept = ks} {out = o} {more = r} {refused = rf} line m f)
      (carried {lines = ls'} {kept = ks'} {out = o'} {more = r'} {refused = rf'} line' m' f') e =
      let head : line ≡ line' = cc e in
      let tail : ls ≡ ls' = cc e in
      let same = moves_one D script only cs line.command o o' m (subst (λ z. Moves D script cs z.command o') (sym head) m') in
      let rest = finishes_one (cs ++ line.command ∷ []) ls ls' r r' ks ks' rf rf' f (subst (λ z. Finishes D script (cs ++ z.command ∷ []) ls' r' ks' rf') (sym head) f') tail in
      (ap (λ z. z ++ r) same ∙ ap (λ z. o' ++ z) rest.0, ap (λ z. z ∷ ks) head ∙ ap (λ z. line' ∷ z) rest.1, rest.2)
  finishes_one cs lines lines' out other kept others refused refuseds (carried {lines = ls} {out = o} line m f) (refuses {lines = ls'} {earlier = r} {state = s} line' rule b d f') e =
      let head : line ≡ line' = cc e in
      absurd (not_refused D script only cs line.command r o s rule b (subst (λ z. Decides s z.command (Err rule)) (sym head) d) m)
  finishes_one cs lines lines' out other kept others refused refuseds (refuses {lines = ls} {earlier = r} {state = s} line rule b d f) (carried {lines = ls'} {out = o} line' m f') e =
      let head : line ≡ line' = cc e in
      absurd (not_refused D script only cs line.command r o s rule b d (subst (λ z. Moves D script cs z.command o) (sym head) m))
  finishes_one cs lines lines' out other kept others refused refuseds (refuses {lines = ls} {kept = ks} {earlier = r} {more = o} {refused = rf} {state = s} line rule b d f)
      (refuses {lines = ls'} {kept = ks'} {earlier = r'} {more = o'} {refused = rf'} {state = s'} line' rule' b' d' f') e =
      let head : line ≡ line' = cc e in
      let tail : ls ≡ ls' = cc e in
      let states = following_one D script only cs r r' s s' b b' in
      let there : Decides s line.command (Err rule') = subst (λ z. Decides z line.command (Err rule')) (sym states.1) (subst (λ z. Decides s' z.command (Err rule')) (sym head) d') in
      let same : rule ≡ rule' = cc (one_answer s line.command (Err rule) (Err rule') d there) in
      let rest = finishes_one cs ls ls' o o' ks ks' rf rf' f f' tail in (
        rest.0,
        rest.1,
        ap (λ z. remark (codes "refused " ++ rule_name z ++ codes ": " ++ line.text.items) ++ rf) same
            ∙ ap (λ z. remark (codes "refused " ++ rule_name rule' ++ codes ": " ++ z.text.items) ++ rf) head
            ∙ ap (λ z. remark (codes "refused " ++ rule_name rule' ++ codes ": " ++ line'.text.items) ++ z) rest.2,
      )

  -- an interleaving has one ending
  pub comes_one : (x : Explored) → HasOneKey (Comes D script x)
  comes_one x = record {
    one = λ w e f a b.
        let moved = following_one D script only (commands_of x w) a.ends.moved b.ends.moved a.ends.state b.ends.state a.ends.moves b.ends.moves in
        let rest = finishes_one (commands_of x w) x.following.items x.following.items a.ends.written b.ends.written a.kept b.kept a.ends.refused b.ends.refused a.ends.finishes b.ends.finishes refl in
        a.ends.is
        ∙ ap (λ z. told (z ++ a.ends.written) ++ left_out x w ++ a.ends.refused) moved.0
        ∙ ap (λ z. told (b.ends.moved ++ z) ++ left_out x w ++ a.ends.refused) rest.0
        ∙ ap (λ z. told (b.ends.moved ++ b.ends.written) ++ left_out x w ++ z) rest.2
        ∙ sym b.ends.is;
  }
