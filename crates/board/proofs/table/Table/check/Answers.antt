use Rattle.std.proofs.Common.{◌≡◌, Bool, true, false, cond, ap}
use Rattle.std.proofs.lemmas.Bool.Decides.{Decides-at}
use Rattle.board.specs.Refusals.{refused_unless}
use Rattle.board.specs.declared.refusals.TableRefusal.TheVariants.{Unsound}
use Rattle.board.specs.Table.{sound_table}
use Rattle.board.proofs.Decided.{decides_sound}
use Rattle.board.proofs.table.Table.check.Goals as goal

pub returns-then-is_sound : goal.returns-then-is_sound
returns-then-is_sound c =
    let yes : true ≡ sound_table c.args.records.now c.args.moves.now = c.if-is_sound.ensures in
    record { answer = ap (λ (b : Bool). refused_unless b Unsound) yes; number = ap (λ (b : Bool). cond b 0 20) yes; means = Decides-at true _ yes (decides_sound c.args.records.now c.args.moves.now) }

pub returns-else-is_sound : goal.returns-else-is_sound
returns-else-is_sound c =
    let not : false ≡ sound_table c.args.records.now c.args.moves.now = c.if-is_sound.ensures in
    record { answer = ap (λ (b : Bool). refused_unless b Unsound) not; number = ap (λ (b : Bool). cond b 0 20) not; means = Decides-at false _ not (decides_sound c.args.records.now c.args.moves.now) }
