use Rattle.std.proofs.Common.{◌∙◌}
use Rattle.codec.proofs.Bytes.{bytes_two}
use Rattle.codec.proofs.Pasting.{put_is, put_both}
use Rattle.codec.proofs.writer.Output.put_opening.Goals as goal

pub returns : goal.returns
returns c = put_both c.put.ensures (put_both (put_is (c.to_be_bytes.ensures ∙ bytes_two c.args.row.version) c.put-2.ensures) (put_both c.put-3.ensures c.put-4.ensures))
