use Rattle.fw_account_tables.proofs.Common.{◌≡◌, false, refl, ap, ◌∙◌, ConnectionKind, out_word}
use Rattle.fw_terms.specs.declared.plug.ConnectionKind.TheVariants.{PointToPoint, Broadcast}
use Rattle.fw_plug.specs.Words.{Settings}
use Rattle.fw_plug.specs.Changes.{is_full, one_more}
use Rattle.fw_plug.proofs.Changes.{first_has_room, counted_word, broadcast_word}
use Rattle.fw_account_tables.specs.Swaps.{connected_once}
use Rattle.fw_account_tables.proofs.connection.first_word.Goals as goal

connected : (kind : ConnectionKind) (k : Settings) → one_more kind (out_word (record { broadcast = false; counter = 0; settings = k })) ≡ out_word (connected_once kind k)
connected PointToPoint k = counted_word (record { broadcast = false; counter = 0; settings = k })
connected Broadcast k = broadcast_word (record { broadcast = false; counter = 0; settings = k }) refl

pub one_more-requires : goal.one_more-requires
one_more-requires c =
    ap (is_full c.args.kind) c.unconnected_output.ensures
    ∙ first_has_room c.args.kind (record { channel = c.args.channel; rate = c.args.rate; overhead = c.args.overhead })
    (record { channel = c.requires.channel; rate = c.requires.rate; overhead = c.requires.overhead })

pub returns : goal.returns
returns c =
    c.one_more.ensures ∙ ap (one_more c.args.kind) c.unconnected_output.ensures
    ∙ connected c.args.kind (record { channel = c.args.channel; rate = c.args.rate; overhead = c.args.overhead })
