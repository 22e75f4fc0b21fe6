-- The ending of an interleaving, from what was kept of it.
use Rattle.fw_explore_meaning.proofs.Common.{ℕ, ◌≡◌, List, [], ◌++◌, sym, ap, ◌∙◌, Command, Machine, DeskRelations, Explored, History, told_entries, commands_of, Leads}
use Rattle.fw_explore_told.specs.Sayings.{said_all, unmarked_from}
use Rattle.fw_explore_told.specs.Telling.{told, left_out}
use Rattle.fw_explore_told.proofs.TellingLaws.{told_all, left_marked}
use Rattle.fw_explore_meaning.specs.Finishing.{CarriedAfter, IsFinished}
use Rattle.fw_explore_meaning.proofs.HistoryLaws.{told_more}

module _ (D : DeskRelations) (script : List Command) (x : Explored) (half : ℕ) (past past' : History) (m : Machine) (w : List ℕ) (l : Leads D script x half past m w) (refused lines : List ℕ)
    (c : CarriedAfter D script (commands_of x w) x.following.items past past' [] refused [] lines) where
  texts : said_all past'.said ≡ told (l.out ++ c.written)
  texts = ap said_all (c.said ∙ ap (λ z. z ++ told_entries c.written) l.said ∙ sym (told_more l.out c.written)) ∙ sym (told_all (l.out ++ c.written))

  marks : unmarked_from past'.done 0 x.movers.items ≡ left_out x w
  marks = ap (λ d. unmarked_from d 0 x.movers.items) c.done ∙ sym (left_marked past.done w x.movers.items l.done)

  pub finished : (ending : List ℕ) → ending ≡ said_all past'.said ++ unmarked_from past'.done 0 x.movers.items ++ refused → IsFinished D script x w ending lines
  finished ending is = record {
    kept = c.kept;
    ends = record {
      moved = l.out;
      state = l.state;
      moves = l.following;
      written = c.written;
      refused = c.told;
      finishes = c.finishes;
      is = is ∙ ap (λ z. z ++ unmarked_from past'.done 0 x.movers.items ++ refused) texts ∙ ap (λ z. told (l.out ++ c.written) ++ z ++ refused) marks
          ∙ ap (λ z. told (l.out ++ c.written) ++ left_out x w ++ z) c.refused_are;
    };
    is = c.lines_are;
  }
