use Rattle.std.proofs.Common.{rules, ◌≡◌, ◌<◌, ◌^◌, ◌+◌, ◌++◌, ◌∷◌, [], ◌∙◌, List, ℕ, Ok, Err, None, length, take, arith, refl, ap, sym, subst}
use Rattle.std.proofs.lemmas.List.{length-drop}
use Rattle.fw_log_entry.specs.declared.entry.Timed.{Timed}
use Rattle.fw_log.specs.Passing.{CountsUp}
use Rattle.fw_log.specs.Reader.{State, Feeds, total}
use Rattle.fw_log_loop.specs.Readings.{Form, Passes}
use Rattle.fw_log_loop.specs.Pieces.{GatheredTo}
use Rattle.fw_log_loop.proofs.Gatherings.{gathered_first, gathered_passed, gathered_some, gathered_rest, gathered_part, gathered_all, few_read}
use Rattle.fw_log_loop.proofs.RefusedGatherings.{gathered_fault, gathered_last}
use Rattle.fw_log_loop.proofs.Gatherings.{rest_from, none_else, takes_none, takes_some, when_none, when_some, by_both}
use Rattle.fw_log_loop.proofs.Gatherings.{stays_fresh, when_fresh, given_body, none_given}
use Rattle.fw_log_loop.proofs.piece.take_entries.Goals as goal

pub loop-rest-init : goal.loop-rest-init
loop-rest-init g c = record {
  fresh = c.requires.fresh;
  count = omega arith;
  text = λ entries bytes h t. gathered_first (g.met.O.Reading.each c.args.output.now) (g.O.Reading.took c.args.output.now)
      (g.O.Reading.gathered c.args.output.now) entries bytes c.args.piece.now c.args.reader.now h t;
  same = refl;
}

pub loop-rest-preserved-in-Some : goal.loop-rest-preserved-in-Some
loop-rest-preserved-in-Some g c =
    let i = c.loop-rest.invariant in
    let rest : List ℕ = c.loop-rest.rest.now in
    let used = c.in-Some.used in
    let new = c.take_raw.new.reader in
    let passed = c.in_ok-used.ensures in
    let up = when_some c.in_ok-used.field-0 used (CountsUp c.loop-rest.reader rest new) c.in-Some.is passed.counts in
    let from = sym (rest_from rest used) in
    record {
      fresh = when_some c.in_ok-used.field-0 used (λ n. new.fault ≡ None) c.in-Some.is passed.fresh;
      count =
          let N : List ℕ → Type 0 = λ x. total new + length x ≡ total c.args.reader.now + length c.args.piece.now in
          subst N from (omega (arith, i.count, up.total, up.within, length-drop used rest));
      text = λ entries bytes h t.
          let p = i.text entries bytes h t in
          let es : List Timed = entries ++ p.gathers.more in
          let P : List ℕ → Type 0 = λ x. GatheredTo (g.O.Reading.form c.args.output.now).text (g.O.Reading.took c.take_raw.new.self) (g.O.Reading.gathered c.args.output.now)
          (g.O.Reading.gathered c.take_raw.new.self) entries bytes c.args.piece.now x new in
          let S : Form → Type 0 = λ form. Passes form.text (g.O.Reading.took c.take_raw.new.self) (g.O.Reading.gathered c.loop-rest.output) (g.O.Reading.gathered c.take_raw.new.self) es
          ((bytes ++ p.done) ++ take used rest) new in
          let passes = when_some c.in_ok-used.field-0 used
          (λ n. Passes (g.O.Reading.form c.loop-rest.output).text (g.O.Reading.took c.take_raw.new.self) (g.O.Reading.gathered c.loop-rest.output) (g.O.Reading.gathered c.take_raw.new.self) es
          ((bytes ++ p.done) ++ take n rest) new)
          c.in-Some.is (passed.history es (bytes ++ p.done) p.gathers.read p.gathers.took) in
          subst P from (gathered_passed (g.met.O.Reading.each c.args.output.now) new used p (subst S i.same passes));
      same = passed.same ∙ i.same;
    }

pub returns-then-keep_part-clause-text : goal.returns-then-keep_part-clause-text
returns-then-keep_part-clause-text g c entries bytes h t0 =
    let i = c.loop-rest.invariant in
    let kept = when_none c.in_ok-used.field-0 (none_else c.in_ok-used.field-0 c.in_default.not-Some) c.in_ok-used.ensures.kept in
    let p = by_both (λ x o. GatheredTo (g.O.Reading.form c.args.output.now).text (g.O.Reading.took o) (g.O.Reading.gathered c.args.output.now)
    (g.O.Reading.gathered o) entries bytes c.args.piece.now c.loop-rest.rest.now x) kept.0 kept.1 (i.text entries bytes h t0) in
    gathered_part c.keep_part.new.self p (c.keep_part.ensures.history c.if-keep_part.true (entries ++ p.gathers.more) (bytes ++ p.done) p.gathers.read)

pub returns-in-Err-clause-text : goal.returns-in-Err-clause-text
returns-in-Err-clause-text g c entries bytes h t =
    let i = c.loop-rest.invariant in
    let r = c.keep_part.new.self in
    let rest : List ℕ = c.loop-rest.rest.now in
    let kept = when_none c.in_ok-used.field-0 (none_else c.in_ok-used.field-0 c.in_default.not-Some) c.in_ok-used.ensures.kept in
    let stays : r ≡ c.loop-rest.reader = c.keep_part.ensures.kept c.if-keep_part.false ∙ kept.0 in
    let f : Feeds r.stand r.taken rest (Err c.in-Err.fault) c.feed_apart.new.self =
    when_fresh (Feeds r.stand r.taken rest (Err c.in-Err.fault) c.feed_apart.new.self) r.fault (ap (λ (s : State). s.fault) stays ∙ i.fresh) c.in-Err.ensures.fresh in
    let p = by_both (λ x o. GatheredTo (g.O.Reading.form c.args.output.now).text (g.O.Reading.took o) (g.O.Reading.gathered c.args.output.now)
    (g.O.Reading.gathered o) entries bytes c.args.piece.now rest x) stays kept.1 (i.text entries bytes h t) in
    gathered_fault (g.O.Reading.took c.take_raw.new.self) c.feed_apart.new.self c.in-Err.fault p f (λ es t. t)

pub take-requires-clause-body : goal.take-requires-clause-body
take-requires-clause-body g c = c.as_slice.ensures ∙ given_body c.in-Ok.fed c.in-Some-entry.entry c.in-Some-entry.is c.in-Ok.ensures.body

pub loop-rest-preserved : goal.loop-rest-preserved
loop-rest-preserved g c =
    let i = c.loop-rest.invariant in
    let r = c.keep_part.new.self in
    let rest : List ℕ = c.loop-rest.rest.now in
    let fed = c.in-Ok.fed in
    let t = c.in-Some-entry.entry in
    let new = c.feed_apart.new.self in
    let kept = when_none c.in_ok-used.field-0 (none_else c.in_ok-used.field-0 c.in_default.not-Some) c.in_ok-used.ensures.kept in
    let stays : r ≡ c.loop-rest.reader = c.keep_part.ensures.kept c.if-keep_part.false ∙ kept.0 in
    let at : total r ≡ total c.loop-rest.reader = ap total stays in
    let f : Feeds r.stand r.taken rest (Ok fed) new = when_fresh (Feeds r.stand r.taken rest (Ok fed) new) r.fault (ap (λ (s : State). s.fault) stays ∙ i.fresh) c.in-Ok.ensures.fresh in
    let from = sym (rest_from rest fed.used) in
    let small : total new < 2 ^ 64 = omega (arith, i.count, at, c.in-Ok.ensures.counts.0, c.in-Ok.ensures.counts.1, c.requires.room) in
    record {
      fresh = stays_fresh r.stand r.taken rest new fed f;
      count =
          let N : List ℕ → Type 0 = λ x. total new + length x ≡ total c.args.reader.now + length c.args.piece.now in
          subst N from (omega (arith, i.count, at, c.in-Ok.ensures.counts.0, c.in-Ok.ensures.counts.1, length-drop fed.used rest));
      text = λ entries bytes h t0.
          let p = by_both (λ x o. GatheredTo (g.O.Reading.form c.args.output.now).text (g.O.Reading.took o) (g.O.Reading.gathered c.args.output.now)
          (g.O.Reading.gathered o) entries bytes c.args.piece.now rest x) stays kept.1 (i.text entries bytes h t0) in
          let es : List Timed = entries ++ p.gathers.more in
          let P : List ℕ → Type 0 = λ x. GatheredTo (g.O.Reading.form c.args.output.now).text (g.O.Reading.took c.take.new.self) (g.O.Reading.gathered c.args.output.now)
          (g.O.Reading.gathered c.take.new.self) entries bytes c.args.piece.now x new in
          let read = c.in-Ok.ensures.history es (bytes ++ p.done) p.gathers.read in
          let A : Form → Type 0 = λ form. g.O.Reading.gathered c.take.new.self ≡ g.O.Reading.gathered c.take_raw.new.self ++ form.text es (t ∷ []) in
          let took = takes_none (g.O.Reading.form c.take_raw.new.self).text g.O.Reading.rules.rejects (g.O.Reading.took c.take.new.self) (g.O.Reading.gathered c.take_raw.new.self)
          (g.O.Reading.gathered c.take.new.self) es t c.in_ok-refusal.field-0
          (none_else c.in_ok-refusal.field-0 c.in_default-2.not-Some) (c.in_ok-refusal.ensures.took es (few_read new fed t p read c.in-Some-entry.is small) p.gathers.took) in
          subst P from (gathered_some (g.met.O.Reading.each c.args.output.now) new fed t p read c.in-Some-entry.is took.0 (subst A (c.in_ok-used.ensures.same ∙ i.same) took.1));
      same = c.in_ok-refusal.ensures.same ∙ c.in_ok-used.ensures.same ∙ i.same;
    }

pub returns-in_default-entry-clause-text : goal.returns-in_default-entry-clause-text
returns-in_default-entry-clause-text g c entries bytes h t0 =
    let i = c.loop-rest.invariant in
    let r = c.keep_part.new.self in
    let rest : List ℕ = c.loop-rest.rest.now in
    let fed = c.in-Ok.fed in
    let new = c.feed_apart.new.self in
    let kept = when_none c.in_ok-used.field-0 (none_else c.in_ok-used.field-0 c.in_default.not-Some) c.in_ok-used.ensures.kept in
    let stays : r ≡ c.loop-rest.reader = c.keep_part.ensures.kept c.if-keep_part.false ∙ kept.0 in
    let f : Feeds r.stand r.taken rest (Ok fed) new = when_fresh (Feeds r.stand r.taken rest (Ok fed) new) r.fault (ap (λ (s : State). s.fault) stays ∙ i.fresh) c.in-Ok.ensures.fresh in
    let p = by_both (λ x o. GatheredTo (g.O.Reading.form c.args.output.now).text (g.O.Reading.took o) (g.O.Reading.gathered c.args.output.now)
    (g.O.Reading.gathered o) entries bytes c.args.piece.now rest x) stays kept.1 (i.text entries bytes h t0) in
    gathered_rest (g.met.O.Reading.each c.args.output.now) new fed p f (c.in-Ok.ensures.history (entries ++ p.gathers.more) (bytes ++ p.done) p.gathers.read)
    (none_given fed.entry c.in_default-entry.not-Some)

pub returns-in-Some-2-clause-text : goal.returns-in-Some-2-clause-text
returns-in-Some-2-clause-text g c entries bytes h t0 =
    let i = c.loop-rest.invariant in
    let r = c.keep_part.new.self in
    let rest : List ℕ = c.loop-rest.rest.now in
    let fed = c.in-Ok.fed in
    let t = c.in-Some-entry.entry in
    let new = c.feed_apart.new.self in
    let kept = when_none c.in_ok-used.field-0 (none_else c.in_ok-used.field-0 c.in_default.not-Some) c.in_ok-used.ensures.kept in
    let stays : r ≡ c.loop-rest.reader = c.keep_part.ensures.kept c.if-keep_part.false ∙ kept.0 in
    let at : total r ≡ total c.loop-rest.reader = ap total stays in
    let f : Feeds r.stand r.taken rest (Ok fed) new = when_fresh (Feeds r.stand r.taken rest (Ok fed) new) r.fault (ap (λ (s : State). s.fault) stays ∙ i.fresh) c.in-Ok.ensures.fresh in
    let small : total new < 2 ^ 64 = omega (arith, i.count, at, c.in-Ok.ensures.counts.0, c.in-Ok.ensures.counts.1, c.requires.room) in
    let p = by_both (λ x o. GatheredTo (g.O.Reading.form c.args.output.now).text (g.O.Reading.took o) (g.O.Reading.gathered c.args.output.now)
    (g.O.Reading.gathered o) entries bytes c.args.piece.now rest x) stays kept.1 (i.text entries bytes h t0) in
    let es : List Timed = entries ++ p.gathers.more in
    let read = c.in-Ok.ensures.history es (bytes ++ p.done) p.gathers.read in
    let took = takes_some (g.O.Reading.form c.take_raw.new.self).text g.O.Reading.rules.rejects (g.O.Reading.took c.take.new.self) (g.O.Reading.gathered c.take_raw.new.self)
    (g.O.Reading.gathered c.take.new.self) es t c.in_ok-refusal.field-0 c.in-Some-2.refusal c.in-Some-2.is
    (c.in_ok-refusal.ensures.took es (few_read new fed t p read c.in-Some-entry.is small) p.gathers.took) in
    gathered_last g.O.Reading.rules new fed t c.in-Some-2.refusal p f read c.in-Some-entry.is (g.met.O.Reading.accepted c.take_raw.new.self) took.0 took.1

pub returns-clause-text : goal.returns-clause-text
returns-clause-text g c entries bytes h t = gathered_all (c.loop-rest.invariant.text entries bytes h t) (search rules)
