use Rattle.std.proofs.Common.{◌≡◌, ℕ, List, Option, ap, refl, sym, subst, ◌∙◌}
use Rattle.fw_model_run.specs.Desks.{DeskRelations}
use Rattle.fw_log_loop.specs.Endings.{Reads}
use Rattle.fw_log_words.specs.Words.{form_by, rules_by}
use Rattle.fw_tool.specs.Scripts.{RunsAs}
use Rattle.fw_script_words.specs.Sums.{Sums}
use Rattle.fw_tool.specs.declared.ending.Ending.{Ending}
use Rattle.fw_tool.specs.declared.ending.Ending.TheVariants.{Usage}
use Rattle.fw_tool.specs.About.{about_text, IsSaid}
use Rattle.fw_tool.specs.Closing.{IsClosed}
use Rattle.fw_tool.specs.Explorations.{ExploresAs}
use Rattle.fw_tool.specs.Faults.{FirstFault}
use Rattle.fw_tool.specs.Logs.{by_log}
use Rattle.fw_tool.specs.Notes.{IsTold}
use Rattle.fw_tool.specs.Runs.{by_run}
use Rattle.fw_tool.specs.Turns.{SinkTurn, PassesAtOnce}
use Rattle.fw_tool.proofs.Tellings.{first_by_status}
use Rattle.fw_tool.proofs.Servings.{closes, same_told, told_by_status, closed_quiet, closed_writes, closed_said}
use Rattle.fw_tool.proofs.session.fire.Given as given
use Rattle.fw_tool.proofs.session.fire.Goals as goal

pub returns : goal.returns
returns g c =
    let D : DeskRelations = record { blocks = given.F-post g c.args.desk.now.blocks; vendor = given.H-post g c.args.desk.now.vendor } in
    let did = c.dispatch_form-ending.ensures in
    let passed = c.pass_all-flushed.ensures in
    let left = g.S.Source.left c.args.source.now in
    let left2 = g.S.Source.left c.dispatch_form-ending.new.source in
    let held = g.K.Sink.held c.args.sink.now in
    let read = g.S.Source.faults c.args.source.now in
    let read2 = g.S.Source.faults c.dispatch_form-ending.new.source in
    let written = g.K.Sink.faults c.args.sink.now in
    let before = g.K.Sink.faults c.dispatch_form-ending.new.sink in
    let written2 = g.K.Sink.faults c.pass_all-flushed.new.self in
    let same = sym passed.held in
    let sink : SinkTurn _ = record {
      held = g.K.Sink.held;
      kept = g.K.Flush.kept;
      at_once = g.K.Flush.at_once;
      faults = g.K.Sink.faults;
      old = c.args.sink.now;
      new = c.pass_all-flushed.new.self;
    } in
    let closing : (came : Ending) → c.dispatch_form-ending.result ≡ came
    → IsClosed (PassesAtOnce sink) read read2 written written2 (g.K.Flush.kept c.pass_all-flushed.new.self) came c.closed.result = λ came is.
    let F : Ending → Type 0 = FirstFault read read2 written before in
    record {
      before = before;
      first = subst F is did.first;
      flushed = closes c.pass_all-flushed.result c.dispatch_form-ending.result came c.closed.result _ _ _ is c.closed.ensures passed.empty passed.same passed.risen
          (λ at_once. (passed.at_once (at_once c.dispatch_form-ending.new.sink)).1);
    } in
    let closed = closing c.dispatch_form-ending.result refl in
    record {
      scripts = λ word form.
          let (e, is, runs) = did.scripts word form in
          let P : Option (List ℕ) → Type 0 = λ h. RunsAs D word left left2 held h e in
          (e, c.closed.result, subst P same runs, (closing (by_run e) is, c.tell.ensures));
      sums = λ seed form.
          let (stays, (e, is, sums)) = did.sums seed form in
          let P : Option (List ℕ) → Type 0 = λ h. Sums D seed held h e in
          (stays, (e, c.closed.result, subst P same sums, (closing (by_run e) is, c.tell.ensures)));
      logs = λ word form.
          let (e, is, reads) = did.logs word form in
          let P : Option (List ℕ) → Type 0 = λ h. Reads (form_by word) (rules_by word) left left2 held h e in
          (e, c.closed.result, subst P same reads, (closing (by_log e) is, c.tell.ensures));
      explorations = λ more form.
          let did_explore = did.explorations more form in
          let P : Option (List ℕ) → Type 0 = λ h. ExploresAs D more left left2 held h c.dispatch_form-ending.result in
          (c.dispatch_form-ending.result, c.closed.result, subst P same did_explore, (closed, c.tell.ensures));
      about = λ about form.
          let (stays, said) = did.about about form in
          let P : Option (List ℕ) → Type 0 = λ h. IsSaid held h (about_text about) c.dispatch_form-ending.result in
          (stays, (c.dispatch_form-ending.result, c.closed.result, subst P same said, (closed, c.tell.ensures)));
      usage = λ form.
          let (stays, untouched, is) = did.usage form in
          (stays, passed.held ∙ ap (λ s. g.K.Sink.held s) untouched, (c.closed.result, (closing Usage is, c.tell.ensures)));
      first = told_by_status g.N.Sink.held g.N.Sink.faults c.args.notes.now c.tell.new.notes c.tell.result read read2 written written2 closed c.tell.ensures;
      first_at_once = λ at_once.
          let (same, ok) = passed.at_once (at_once c.dispatch_form-ending.new.sink) in
          let F : ℕ → Type 0 = λ w. FirstFault read read2 written w c.dispatch_form-ending.result in
          let T : Ending → Type 0 = λ e. IsTold g.N.Sink.held g.N.Sink.faults c.args.notes.now c.tell.new.notes e c.tell.result in
          first_by_status g.N.Sink.held g.N.Sink.faults c.args.notes.now c.tell.new.notes c.tell.result read read2 written written2
          c.dispatch_form-ending.result (subst F (sym (ap (λ s. g.K.Sink.faults s) same)) did.first)
          (subst T (same_told c.pass_all-flushed.result c.dispatch_form-ending.result c.closed.result c.closed.ensures ok) c.tell.ensures);
      usage_at_once = λ at_once form.
          let (same, ok) = passed.at_once (at_once c.dispatch_form-ending.new.sink) in
          let (stays, untouched, is) = did.usage form in
          same ∙ untouched;
      complete = λ word form script told valid unread unwritten unnoted.
          closed_quiet g.N.Sink.held g.N.Sink.faults c.args.notes.now c.tell.new.notes c.tell.result read read2 written written2 closed c.tell.ensures
          (did.complete word form script told valid) unread unwritten unnoted;
      complete_sums = λ seed form valid unwritten unnoted.
          closed_writes g.N.Sink.held g.N.Sink.faults c.args.notes.now c.tell.new.notes c.tell.result read read2 written written2 closed c.tell.ensures
          (did.complete_sums seed form valid) unwritten unnoted;
      complete_log = λ word form entries bytes told log short accepted unread unwritten unnoted.
          closed_quiet g.N.Sink.held g.N.Sink.faults c.args.notes.now c.tell.new.notes c.tell.result read read2 written written2 closed c.tell.ensures
          (did.complete_log word form entries bytes told log short accepted) unread unwritten unnoted;
      complete_about = λ about form unwritten.
          closed_said g.N.Sink.held g.N.Sink.faults c.args.notes.now c.tell.new.notes c.tell.result read read2 written written2 closed c.tell.ensures
          held (g.K.Sink.held c.dispatch_form-ending.new.sink) (about_text about) (did.about about form).1 unwritten;
    }
