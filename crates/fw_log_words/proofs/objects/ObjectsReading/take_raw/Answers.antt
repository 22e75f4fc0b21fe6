use Rattle.std.proofs.Common.{refl}
use Rattle.fw_log_words.proofs.WholePassings.{object_passes}
use Rattle.fw_log_words.proofs.objects.ObjectsReading.take_raw.Goals as goal

pub put_body-requires : goal.put_body-requires
put_body-requires c = c.in-Some.ensures.body

pub returns-clause-history : goal.returns-clause-history
returns-clause-history c entries bytes h t =
    let x = c.in-Some.ensures.history entries bytes h in
    object_passes c.args.self.now.room c.put_body.new.self.room entries _ c.pass_body.new.self c.in-Some.passed x x.entry.what refl (c.in_ok-put_body.ensures x.entry.what x.made)
