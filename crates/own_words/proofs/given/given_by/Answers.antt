use Rattle.clap.specs.Matches.{found_of}
use Rattle.own_words.proofs.Holding.{seen_is}
use Rattle.own_words.proofs.given.given_by.Goals as goal

pub returns : goal.returns
returns c g h =
    seen_is (found_of c.args.matches.now) g _ h c.get_strs.ensures c.get_str.ensures c.get_str-2.ensures
    c.get_flag.ensures.none c.get_flag.ensures.value c.get_flag.ensures.other
