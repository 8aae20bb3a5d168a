use Rattle.std.proofs.Common.{Ok, Err}
use Rattle.own_lex.proofs.LawsAnswers.{found_says, refused_says, says_given}
use Rattle.own_lex.proofs.LawsUnique.{tokens_unique}
use Rattle.own_lex.proofs.lex.Goals as goal

pub returns-clause-found : goal.returns-clause-found
returns-clause-found c = found_says c.args.text.now c.read.result c.read.ensures

pub returns-clause-only : goal.returns-clause-only
returns-clause-only c tokens is = says_given c.args.text.now c.read.result (Ok tokens) c.read.ensures is

pub returns-clause-one : goal.returns-clause-one
returns-clause-one c tokens others is are = tokens_unique c.args.text.now tokens others is are

pub returns-clause-refused : goal.returns-clause-refused
returns-clause-refused c = refused_says c.args.text.now c.read.result c.read.ensures

pub returns-clause-refuses : goal.returns-clause-refuses
returns-clause-refuses c e is = says_given c.args.text.now c.read.result (Err e) c.read.ensures is
