-- The cycle start and the packets of output plugs may be written.
use Rattle.fw_model_run.proofs.Common.{◌≡◌, ◌<◌, [], ◌∷◌, Bool, true, false, Option, Some, None, subst, arith, IsTrue, PlugAt, ResetEntry, talks, State, GivenBlock, GivesBlock, bytes_of, tape_at}
use Rattle.fw_model_run.proofs.Common.{cycle_start, stream_packet, IsGood, IsLatest}
use Rattle.std.proofs.Common.{IfSome}
use Rattle.fw_async.specs.Async as Async
use Rattle.fw_cip.specs.Iso as Iso
use Rattle.fw_cip.specs.Iso.{IsBlock, header_layout}
use Rattle.fw_cip.specs.Streams.{fdf_of}
use Rattle.fw_words.specs.Layout.{FitWidths}
use Rattle.fw_tape.specs.Motion.{is_fifty}
use Rattle.fw_model_run.proofs.Bounds.{few_rows, node_few}

pub start_fits : (s : State) (e : ResetEntry) → IsGood s → s.account.latest ≡ Some e → Async.Fits (cycle_start e.root s.clock.cycle)
start_fits s e g is =
    let h = subst (λ o. IsLatest o s.declared s.account) is g.latest in
    let few = few_rows s e g h.1 in
    let root = h.4 in
    ((omega arith, omega arith, omega arith, omega arith, omega (arith, few, root)), omega arith, omega arith)

pub packet_fits : (s : State) (p : PlugAt) (block : Option GivenBlock) → IsGood s → IsTrue (talks s.account p) → GivesBlock s p block → Iso.Fits (stream_packet s p (bytes_of block))
packet_fits s p block g on given = record {
  header = header block;
  first = let few = node_few s p.device g in (
    omega arith,
    omega arith,
    (
      omega arith,
      omega (arith, few),
      (
        omega arith,
        omega arith,
        (omega arith, omega arith, (omega arith, omega arith, (omega arith, omega arith, (omega arith, omega arith, (omega arith, omega arith, tt))))),
      ),
    ),
  );
  second = second (is_fifty (tape_at s p));
  block = whole block given.bytes;
}
  where
    channel : (s.account.settings p).channel < 64
    channel = (g.reclaims.step.sound.settings_fit p (g.reclaims.step.sound.there p on)).channel

    header : (block : Option GivenBlock) → FitWidths (header_layout (stream_packet s p (bytes_of block)))
    header None = (omega arith, omega arith, (omega arith, omega arith, (omega arith, omega (arith, channel), (omega arith, omega arith, (omega arith, omega arith, tt)))))
    header (Some x) = (omega arith, omega arith, (omega arith, omega arith, (omega arith, omega (arith, channel), (omega arith, omega arith, (omega arith, omega arith, tt)))))

    second : (b : Bool) → FitWidths ((2, 2) ∷ (6, 0) ∷ (24, fdf_of b) ∷ [])
    second true = (omega arith, omega arith, (omega arith, omega arith, (omega arith, omega arith, tt)))
    second false = (omega arith, omega arith, (omega arith, omega arith, (omega arith, omega arith, tt)))

    whole : (b : Option GivenBlock) → IfSome b (λ b. IsBlock b.bytes) → IfSome (bytes_of b) IsBlock
    whole None f = tt
    whole (Some x) f = f
