use Rattle.fw_async.proofs.Common.{length, take, replicate, arith, ap, refl, sym, ◌++◌, ◌∙◌, padding, spelling}
use Rattle.std.proofs.Common.{eqb-true}
use Rattle.fw_async.proofs.OverLaws.{together, size_together, prefix_alone, one_after_another}
use Rattle.fw_async.proofs.writer.write_packet_at.Goals as goal

pub write_over-requires : goal.write_over-requires
write_over-requires c = omega (
  arith,
  size_together c.args.p.now c.as_slice-prefix.result.now c.data_of-data.result.now (replicate (padding (length c.data_of-data.result.now)) 0)
      (record { quadlets = c.as_slice-prefix.ensures.value ∙ c.prefix_of-prefix.ensures; bytes = c.data_of-data.ensures.same; padding = refl }),
)

pub overflow_add-end : goal.overflow_add-end
overflow_add-end c = omega (
  arith,
  size_together c.args.p.now c.as_slice-prefix.result.now c.data_of-data.result.now (replicate (padding (length c.data_of-data.result.now)) 0)
      (record { quadlets = c.as_slice-prefix.ensures.value ∙ c.prefix_of-prefix.ensures; bytes = c.data_of-data.ensures.same; padding = refl }),
)

pub write_over-requires-2 : goal.write_over-requires-2
write_over-requires-2 c = omega (
  arith,
  size_together c.args.p.now c.as_slice-prefix.result.now c.data_of-data.result.now c.padding_of-padding.result.now
      (record { quadlets = c.as_slice-prefix.ensures.value ∙ c.prefix_of-prefix.ensures; bytes = c.data_of-data.ensures.same; padding = c.padding_of-padding.ensures }),
)

pub overflow_add-end-2 : goal.overflow_add-end-2
overflow_add-end-2 c = omega (
  arith,
  size_together c.args.p.now c.as_slice-prefix.result.now c.data_of-data.result.now c.padding_of-padding.result.now
      (record { quadlets = c.as_slice-prefix.ensures.value ∙ c.prefix_of-prefix.ensures; bytes = c.data_of-data.ensures.same; padding = c.padding_of-padding.ensures }),
)

pub write_over-requires-3 : goal.write_over-requires-3
write_over-requires-3 c = omega (
  arith,
  size_together c.args.p.now c.as_slice-prefix.result.now c.data_of-data.result.now c.padding_of-padding.result.now
      (record { quadlets = c.as_slice-prefix.ensures.value ∙ c.prefix_of-prefix.ensures; bytes = c.data_of-data.ensures.same; padding = c.padding_of-padding.ensures }),
)

pub overflow_add-result : goal.overflow_add-result
overflow_add-result c = omega (
  arith,
  size_together c.args.p.now c.as_slice-prefix.result.now c.data_of-data.result.now c.padding_of-padding.result.now
      (record { quadlets = c.as_slice-prefix.ensures.value ∙ c.prefix_of-prefix.ensures; bytes = c.data_of-data.ensures.same; padding = c.padding_of-padding.ensures }),
)

pub returns-clause-end : goal.returns-clause-end
returns-clause-end c = omega (
  arith,
  size_together c.args.p.now c.as_slice-prefix.result.now c.data_of-data.result.now c.padding_of-padding.result.now
      (record { quadlets = c.as_slice-prefix.ensures.value ∙ c.prefix_of-prefix.ensures; bytes = c.data_of-data.ensures.same; padding = c.padding_of-padding.ensures }),
)

pub returns-then-is_empty-clause-bytes : goal.returns-then-is_empty-clause-bytes
returns-then-is_empty-clause-bytes c =
    c.write_over.ensures ∙ ap (λ t. take c.args.at c.args.out.now ++ t)
    (prefix_alone c.args.p.now c.as_slice-prefix.result.now c.data_of-data.result.now (c.as_slice-prefix.ensures.value ∙ c.prefix_of-prefix.ensures) c.data_of-data.ensures.same
    (eqb-true (length c.data_of-data.result.now) 0 (sym c.is_empty.ensures ∙ c.if-is_empty.true)))

pub returns-then-is_empty-clause-end : goal.returns-then-is_empty-clause-end
returns-then-is_empty-clause-end c =
    omega (
      arith,
      ap length (prefix_alone c.args.p.now c.as_slice-prefix.result.now c.data_of-data.result.now (c.as_slice-prefix.ensures.value ∙ c.prefix_of-prefix.ensures) c.data_of-data.ensures.same
          (eqb-true (length c.data_of-data.result.now) 0 (sym c.is_empty.ensures ∙ c.if-is_empty.true))),
    )

pub returns-clause-bytes : goal.returns-clause-bytes
returns-clause-bytes c =
    one_after_another (take c.args.at c.args.out.now) c.write_over.new.out c.write_over-2.new.out c.write_over-3.new.out
    c.as_slice-prefix.result.now c.data_of-data.result.now c.padding_of-padding.result.now (spelling c.args.p.now) _ _ _
    c.write_over.ensures c.write_over-2.ensures c.write_over-3.ensures (together c.args.p.now c.as_slice-prefix.result.now c.data_of-data.result.now c.padding_of-padding.result.now
    (record { quadlets = c.as_slice-prefix.ensures.value ∙ c.prefix_of-prefix.ensures; bytes = c.data_of-data.ensures.same; padding = c.padding_of-padding.ensures }))
