use Rattle.fw_explore.proofs.Common.{ℕ, ◌≡◌, ◌<◌, List, true, false, length, get_or, refl, sym, ap, subst, ◌∙◌, arith, Entry, words_of, DeskRelations, Had, ArePlaced}
use Rattle.fw_explore_meaning.specs.Walking.{IsMoving}
use Rattle.fw_explore_meaning.proofs.MoveLaws.{all_wider, placed_read}
use Rattle.fw_explore_meaning.proofs.RestLaws.{leaves}
use Rattle.fw_explore_meaning.proofs.TryLaws.{no_entry, entry_still, moved_none, place_wider}
use Rattle.fw_explore.proofs.explorer.Explorer.go_on.Given as given
use Rattle.fw_explore.proofs.explorer.Explorer.go_on.Goals as goal

pub move_all-requires-clause-placed : goal.move_all-requires-clause-placed
move_all-requires-clause-placed g c =
    let w = c.args.self.now.walker in
    placed_read (Had w.pasts) (g.P.Keeper.Kept w.kept.places) (get_or c.args.self.now.levels.level c.args.place no_entry).key c.read_key_words.new.out.items
    (sym (c.in_ok-read_key_words.ensures ∙ ap words_of (c.key.ensures no_entry))) (c.requires.placed c.args.place no_entry c.requires.place)

-- ---- some mover moved

pub returns-then-branch-clause-walks : goal.returns-then-branch-clause-walks
returns-then-branch-clause-walks g c = λ script n only going.
    let D : DeskRelations = record { blocks = given.F-post g c.args.desk.now.blocks; vendor = given.H-post g c.args.desk.now.vendor } in
    let x = c.args.explored.now in
    let self = c.args.self.now in
    let w = self.walker in
    let now = c.move_all.new.self in
    let v = now.walker in
    let Kept = g.P.Keeper.Kept in
    let e : Entry = get_or self.levels.level c.args.place no_entry in
    let said = c.in_ok-move_all.ensures in
    leaves D script x w.pasts v.pasts (Kept w.kept.places) (Kept v.kept.places) said.wider e.key c.read_key_words.new.out.items (sym (c.in_ok-read_key_words.ensures
    ∙ ap words_of (c.key.ensures no_entry))) n c.args.place now.levels now.rows e
    (subst (λ l. c.args.place < length l) (sym said.level) c.requires.place) (entry_still self.levels.level now.levels.level c.args.place no_entry c.requires.place said.level) refl
    (subst (λ b. IsMoving D script x w.pasts v.pasts (Kept w.kept.places) (Kept v.kept.places) n c.args.place (length x.movers.items) e.key b now.levels now.rows) c.if-branch.true
    (said.walks script n no_entry
    only going))

pub returns-then-branch-clause-placed : goal.returns-then-branch-clause-placed
returns-then-branch-clause-placed g c =
    let self = c.args.self.now in
    let w = self.walker in
    let now = c.move_all.new.self in
    let v = now.walker in
    let said = c.in_ok-move_all.ensures in
    subst (ArePlaced (Had v.pasts) (g.P.Keeper.Kept v.kept.places)) (sym said.level)
    (all_wider (Had w.pasts) (Had v.pasts) (g.P.Keeper.Kept w.kept.places) (g.P.Keeper.Kept v.kept.places) self.levels.level said.wider c.requires.placed)

-- ---- none did

pub end-requires-clause-placed : goal.end-requires-clause-placed
end-requires-clause-placed g c =
    let w = c.args.self.now.walker in
    let v = c.move_all.new.self.walker in
    let same : v.here.items ≡ c.read_key_words.new.out.items = cc (c.in_ok-move_all.ensures.here) in
    place_wider (Had w.pasts) (Had v.pasts) (g.P.Keeper.Kept w.kept.places) (g.P.Keeper.Kept v.kept.places) c.read_key_words.new.out.items v.here.items c.in_ok-move_all.ensures.wider same
    (placed_read (Had w.pasts) (g.P.Keeper.Kept w.kept.places) (get_or c.args.self.now.levels.level c.args.place no_entry).key c.read_key_words.new.out.items
    (sym (c.in_ok-read_key_words.ensures ∙ ap words_of (c.key.ensures no_entry))) (c.requires.placed c.args.place no_entry c.requires.place))

pub returns-clause-walks : goal.returns-clause-walks
returns-clause-walks g c = λ script n only going.
    let D : DeskRelations = record { blocks = given.F-post g c.args.desk.now.blocks; vendor = given.H-post g c.args.desk.now.vendor } in
    let x = c.args.explored.now in
    let self = c.args.self.now in
    let w = self.walker in
    let now = c.move_all.new.self in
    let v = now.walker in
    let Kept = g.P.Keeper.Kept in
    let said = c.in_ok-move_all.ensures in
    let key = (get_or self.levels.level c.args.place no_entry).key in
    c.end.ensures.walks script n no_entry only
    (subst (λ l. IsMoving D script x v.pasts v.pasts (Kept v.kept.places) (Kept v.kept.places) n c.args.place (length x.movers.items) (get_or l c.args.place no_entry).key false now.levels now.rows)
    (sym
    said.level)
    (moved_none Kept D script x w.pasts v.pasts w.kept.places v.kept.places n c.args.place (length x.movers.items) key now.levels now.rows (said.still c.if-branch.false)
    (subst (λ b. IsMoving D script x w.pasts v.pasts (Kept w.kept.places) (Kept v.kept.places) n c.args.place (length x.movers.items) key b now.levels now.rows) c.if-branch.false
    (said.walks script n no_entry only going))))
