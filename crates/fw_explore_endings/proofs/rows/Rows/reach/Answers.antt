use Rattle.std.proofs.Common.{◌≡◌, ◌<◌, List, length, get_or, set, sym, ap, subst}
use Rattle.fw_explore_endings.specs.declared.rows.Row.{Row}
use Rattle.fw_explore_endings.proofs.RowsLaws.{ended_again, cut_again, told_again, ended_more, cut_more, none_of, same_ending}
use Rattle.fw_explore_endings.proofs.rows.Rows.reach.Goals as goal

pub returns-in_default-clause-ended : goal.returns-in_default-clause-ended
returns-in_default-clause-ended c =
    ended_more c.args.self.now.list.items c.push.new.self.items c.args.row
    (none_of c.args.self.now.list.items c.as_slice.result.now c.args.row c.as_slice-2.result.now c.as_slice.ensures.value c.as_slice-2.ensures.value c.in_default.ensures) c.in_ok-push.ensures.items

pub returns-in_default-clause-cut : goal.returns-in_default-clause-cut
returns-in_default-clause-cut c =
    cut_more c.args.self.now.list.items c.push.new.self.items c.args.row
    (none_of c.args.self.now.list.items c.as_slice.result.now c.args.row c.as_slice-2.result.now c.as_slice.ensures.value c.as_slice-2.ensures.value c.in_default.ensures) c.in_ok-push.ensures.items

pub returns-clause-ended : goal.returns-clause-ended
returns-clause-ended c =
    let old = c.args.self.now.list.items in
    let r = c.index_mut.result.now in
    let within = subst (λ (rs : List Row). c.in-Some.place < length rs) c.as_slice.ensures.value c.in-Some.ensures.0 in
    let at : get_or c.args.self.now.list.items c.in-Some.place c.index_mut.result.now ≡ c.index_mut.result.now = sym c.index_mut.ensures.value in
    let same = same_ending old c.as_slice.result.now c.in-Some.place r c.as_slice-2.result.now c.args.row.ending.items c.as_slice.ensures.value c.as_slice-2.ensures.value at (c.in-Some.ensures.1 r) in
    ended_again old (set old c.in-Some.place c.count.new.self) c.in-Some.place r c.args.row.ending.items c.args.row.first.items c.args.row.ended c.args.row.cut within at same
    (ap (λ (x : Row). set old c.in-Some.place x) c.count.ensures)

pub returns-clause-cut : goal.returns-clause-cut
returns-clause-cut c =
    let old = c.args.self.now.list.items in
    let r = c.index_mut.result.now in
    let within = subst (λ (rs : List Row). c.in-Some.place < length rs) c.as_slice.ensures.value c.in-Some.ensures.0 in
    let at : get_or c.args.self.now.list.items c.in-Some.place c.index_mut.result.now ≡ c.index_mut.result.now = sym c.index_mut.ensures.value in
    let same = same_ending old c.as_slice.result.now c.in-Some.place r c.as_slice-2.result.now c.args.row.ending.items c.as_slice.ensures.value c.as_slice-2.ensures.value at (c.in-Some.ensures.1 r) in
    cut_again old (set old c.in-Some.place c.count.new.self) c.in-Some.place r c.args.row.ending.items c.args.row.first.items c.args.row.ended c.args.row.cut within at same
    (ap (λ (x : Row). set old c.in-Some.place x) c.count.ensures)

pub returns-clause-rows : goal.returns-clause-rows
returns-clause-rows c =
    let old = c.args.self.now.list.items in
    let r = c.index_mut.result.now in
    let within = subst (λ (rs : List Row). c.in-Some.place < length rs) c.as_slice.ensures.value c.in-Some.ensures.0 in
    let at : get_or c.args.self.now.list.items c.in-Some.place c.index_mut.result.now ≡ c.index_mut.result.now = sym c.index_mut.ensures.value in
    let same = same_ending old c.as_slice.result.now c.in-Some.place r c.as_slice-2.result.now c.args.row.ending.items c.as_slice.ensures.value c.as_slice-2.ensures.value at (c.in-Some.ensures.1 r) in
    told_again old (set old c.in-Some.place c.count.new.self) c.in-Some.place r c.args.row.ending.items c.args.row.first.items c.args.row.ended c.args.row.cut within at same
    (ap (λ (x : Row). set old c.in-Some.place x) c.count.ensures) c.args.row
