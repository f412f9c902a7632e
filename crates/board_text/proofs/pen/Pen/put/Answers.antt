use Rattle.std.proofs.Common.{length, refl, ap, ◌∙◌, arith}
use Rattle.board_text.proofs.Puts.{length-put, put_mid-put}
use Rattle.board_text.proofs.pen.Pen.put.Goals as goal

pub returns : goal.returns
returns c =
    let pen = c.args.self.now in
    let bytes = c.args.bytes.now in
    let written = put_mid-put pen.at _ pen.out.now c.copy_from_slice.new.self bytes c.copy_from_slice.ensures.after (omega arith) (omega arith) in
    record {
      same_slice = refl;
      same_length = ap length written ∙ length-put pen.at bytes pen.out.now;
      written = written;
      next = refl;
    }
