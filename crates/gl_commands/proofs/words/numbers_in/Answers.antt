use Rattle.std.specs.Str.Parse.{digits_value}
use Rattle.gl_commands.specs.Words.{is_number}
use Rattle.gl_commands.proofs.WordLemmas.{none_of, one_more}
use Rattle.gl_commands.proofs.words.numbers_in.Goals as goal

pub returns-in-None : goal.returns-in-None
returns-in-None c = none_of is_number (digits_value 10) c.args.words.now c.loop-word.word-index _ c.loop-word-test.true c.in-None.ensures

pub loop-word-preserved : goal.loop-word-preserved
loop-word-preserved c =
    let more = one_more is_number (digits_value 10) c.args.words.now c.loop-word.word-index _ c.loop-word.numbers.items _ c.in-Some.number c.loop-word-test.true c.in-Some.ensures
    c.in_ok-push-in-Some.ensures.items c.loop-word.invariant.all c.loop-word.invariant.read in
    record { all = more.0; read = more.1 }
