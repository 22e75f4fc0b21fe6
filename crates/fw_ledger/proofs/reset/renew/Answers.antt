use Rattle.fw_ledger.proofs.Common.{◌≡◌, ◌/◌, ◌%◌, ◌∙◌, ℕ, List, false, refl, ap, cond, length, slice_index, renewed_seats, charge_at, no_seats, Seats}
use Rattle.std.proofs.Common.{slice_index_or}
use Rattle.fw_ledger.specs.Resets.{renewed_output, renewed_input, goes_on, talker}
use Rattle.fw_account_tables.specs.Stands.{reclaimable_at}
use Rattle.fw_ledger.proofs.Orphans.{items_of}
use Rattle.fw_ledger.proofs.reset.renew.Goals as goal

pub returns-clause-renewed : goal.returns-clause-renewed
returns-clause-renewed c =
    let t = c.args.tables.now in
    let outs = c.args.outs.now in
    let ins = c.ins_of-ins.result in
    let z = c.requires.stands.1.sizes in
    let charge_size : length c.free.new.charges ≡ 64 = c.free.ensures.size ∙ ap length c.deref_mut-7.ensures.value ∙ z.charges in
    let asked_size : length c.forget.new.requests ≡ 63 = c.forget.ensures.size ∙ ap length c.deref_mut-8.ensures.value ∙ z.asked in
    let charges = items_of t.charges c.free.new.charges 64 z.charges charge_size in
    let flows = items_of t.reclaimable c.renew_flows.new.flows 64 z.reclaimable c.renew_flows.ensures.size in
    let requests = items_of t.asked c.forget.new.requests 63 z.asked asked_size in
    let outputs = items_of t.outputs c.renew_outputs.new.words 1953 z.outputs c.renew_outputs.ensures.word_size in
    let inputs = items_of t.inputs c.renew_inputs.new.words 1953 z.inputs c.renew_inputs.ensures.word_size in
    let out_seats = items_of t.output_seats c.renew_outputs.new.seats 1953 z.output_seats c.renew_outputs.ensures.seat_size in
    let in_seats = items_of t.input_seats c.renew_inputs.new.seats 1953 z.input_seats c.renew_inputs.ensures.seat_size in
    let continues = items_of t.continues c.renew_outputs.new.continues 1953 z.continues c.renew_outputs.ensures.continue_size in
    record {
      latest = (refl, refl, c.same_nodes-tables.ensures);
      reclaiming = refl;
      withheld = refl;
      words = (refl, c.first_high-tables.ensures, refl);
      plugs = record {
        outs = c.requires.outs;
        ins = c.ins_of-ins.ensures;
        output_size = ap length outputs ∙ c.renew_outputs.ensures.word_size;
        outputs = λ k lt. ap (λ (ws : List ℕ). slice_index ws k) outputs ∙ c.renew_outputs.ensures.words k lt
            ∙ ap (λ ws. renewed_output t.outs outs c.args.rates.now (k / 31) (k % 31) (slice_index ws k)) c.deref_mut.ensures.value;
        input_size = ap length inputs ∙ c.renew_inputs.ensures.word_size;
        inputs = λ k lt. ap (λ (ws : List ℕ). slice_index ws k) inputs ∙ c.renew_inputs.ensures.words k lt
            ∙ ap (λ ws. renewed_input t.ins ins (k / 31) (k % 31) (slice_index ws k)) c.deref_mut-4.ensures.value;
        output_seat_size = ap length out_seats ∙ c.renew_outputs.ensures.seat_size;
        output_seats = λ k lt. ap (λ (ss : List Seats). slice_index_or ss k no_seats) out_seats ∙ c.renew_outputs.ensures.seats k lt
            ∙ ap (λ ws. renewed_seats t.outs outs (k / 31) (k % 31) (slice_index ws k) (slice_index_or c.deref_mut-2.result.now k no_seats)) c.deref_mut.ensures.value
            ∙ ap (λ ss. renewed_seats t.outs outs (k / 31) (k % 31) (slice_index t.outputs.items k) (slice_index_or ss k no_seats)) c.deref_mut-2.ensures.value;
        input_seat_size = ap length in_seats ∙ c.renew_inputs.ensures.seat_size;
        input_seats = λ k lt. ap (λ (ss : List Seats). slice_index_or ss k no_seats) in_seats ∙ c.renew_inputs.ensures.seats k lt
            ∙ ap (λ ws. renewed_seats t.ins ins (k / 31) (k % 31) (slice_index ws k) (slice_index_or c.deref_mut-5.result.now k no_seats)) c.deref_mut-4.ensures.value
            ∙ ap (λ ss. renewed_seats t.ins ins (k / 31) (k % 31) (slice_index t.inputs.items k) (slice_index_or ss k no_seats)) c.deref_mut-5.ensures.value;
        continue_size = ap length continues ∙ c.renew_outputs.ensures.continue_size;
        continues = λ k lt. ap (λ bs. slice_index_or bs k false) continues ∙ c.renew_outputs.ensures.continues k lt
            ∙ ap (λ ws. goes_on t.outs outs t.reclaiming (k / 31) (k % 31) (slice_index ws k) (slice_index_or c.deref_mut-3.result.now k false)) c.deref_mut.ensures.value
            ∙ ap (λ bs. goes_on t.outs outs t.reclaiming (k / 31) (k % 31) (slice_index t.outputs.items k) (slice_index_or bs k false)) c.deref_mut-3.ensures.value;
      };
      charge_size = ap length charges ∙ charge_size;
      charges = λ ch lt. rw charges (c.free.ensures.all ch (rw (c.deref_mut-7.ensures.value, z.charges) lt));
      flow_size = ap length flows ∙ c.renew_flows.ensures.size;
      flows = λ ch lt. ap (λ fs. reclaimable_at fs ch) flows ∙ c.renew_flows.ensures.flows ch lt
          ∙ ap (λ fs. cond t.reclaiming (reclaimable_at fs ch) (talker (charge_at c.deref.result.now ch))) c.deref_mut-6.ensures.value
          ∙ ap (λ xs. cond t.reclaiming (reclaimable_at t.reclaimable.items ch) (talker (charge_at xs ch))) c.deref.ensures.value;
      addressed = refl;
      asked_size = ap length requests ∙ asked_size;
      asked = λ d lt. rw requests (c.forget.ensures.all d (rw (c.deref_mut-8.ensures.value, z.asked) lt));
    }
