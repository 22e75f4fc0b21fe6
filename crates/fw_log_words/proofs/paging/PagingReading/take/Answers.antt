use Rattle.std.proofs.Common.{◌≡◌, ◌∷◌, [], ◌++◌, List, ℕ}
use Rattle.fw_log_entry.specs.declared.entry.Timed.{Timed}
use Rattle.fw_log_requests.specs.Requests.{standing}
use Rattle.fw_watch.specs.Watched.{Watches, watched}
use Rattle.fw_log_explain.specs.Explained.{explained}
use Rattle.fw_log_json.specs.Objects.{object}
use Rattle.fw_log_words.specs.Texts.{all_of}
use Rattle.fw_log_words.proofs.PageLaws.{entry_put, one_entry, one_object, told}
use Rattle.fw_log_words.proofs.paging.PagingReading.take.Goals as goal

pub returns-clause-took : goal.returns-clause-took
returns-clause-took c = λ entries few p.
    let t = c.args.entry.now in
    let old = c.args.self.now in
    let json = told (λ before more. all_of object more) (λ es. Unit {0}) old.objects.room c.take.new.self.room entries t c.in_ok-take.field-0 (c.in_ok-take.ensures.took entries few tt) in
    let words = told explained (λ es. c.take-2.new.self.explainer.requests ≡ standing es) old.explanation.explainer.text c.take-2.new.self.explainer.text entries t c.in_ok-take-2.field-0
    (c.in_ok-take-2.ensures.took entries few p.requests) in
    let held = c.in_ok-put.ensures entries few p.follows in
    let watch = told watched (λ es. Watches c.take-3.new.self.watch es) old.watching.watch.told.text c.take-3.new.self.watch.told.text entries t c.in_ok-take-3.field-0
    (c.in_ok-take-3.ensures.took entries few p.watches) in (
      record {
        objects = c.in_ok-put_gathered.ensures.empty;
        explained = c.in_ok-put_lines.ensures.empty;
        requests = c.in_ok-put_lines.ensures.took (entries ++ t ∷ []) words.0;
        follows = held.1;
        watched = c.in_ok-put_lines-2.ensures.empty;
        watches = c.in_ok-put_lines-2.ensures.took (entries ++ t ∷ []) watch.0;
      },
      one_entry old.text.items c.put_lines-2.new.text.items entries t
          (entry_put old.text.items c.put_gathered.new.text.items c.put_lines.new.text.items c.put.new.text.items c.put_lines-2.new.text.items old.objects.room c.take.new.self.room
          old.explanation.explainer.text c.take-2.new.self.explainer.text old.watching.watch.told.text c.take-3.new.self.watch.told.text entries t p.objects p.explained p.watched
          (one_object old.objects.room c.take.new.self.room t json.1) words.1 watch.1 c.in_ok-put_gathered.ensures.text c.in_ok-put_lines.ensures.text held.0 c.in_ok-put_lines-2.ensures.text),
    )
