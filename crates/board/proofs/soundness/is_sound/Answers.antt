use Rattle.std.proofs.Common.{◌≡◌, length, rules, tests}
use Rattle.std.proofs.lemmas.Bool.Decides.{nat_tests}
use Rattle.std.proofs.lemmas.Iterator.{YieldsList-from_slice}
use Rattle.std.proofs.lemmas.Iterator.Search.{all_from_yields_List}
use Rattle.std.specs.List.{list_all}
use Rattle.board.specs.Table.{sound_record}
use Rattle.board.proofs.soundness.is_sound.Goals as goal

pub returns : goal.returns
returns c =
    let all : c.all.result ≡ list_all (sound_record (length c.args.records.now) c.args.moves.now) c.args.records.now = all_from_yields_List (sound_record (length c.args.records.now) c.args.moves.now) _ _ c.all.result c.all.ensures.ran (YieldsList-from_slice c.args.records.now cc) (λ x b q h. search (rules, tests)) in
    search (rules, nat_tests)
