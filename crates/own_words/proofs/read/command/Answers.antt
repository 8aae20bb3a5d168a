use Rattle.own_words.proofs.read.command.Goals as goal

pub returns-in-check-clause-usage : goal.returns-in-check-clause-usage
returns-in-check-clause-usage c = rw c.in-check.is c.check.ensures.usage

pub returns-in-build-clause-usage : goal.returns-in-build-clause-usage
returns-in-build-clause-usage c = rw c.in-build.is c.build.ensures.usage

pub returns-in-run-clause-usage : goal.returns-in-run-clause-usage
returns-in-run-clause-usage c = rw c.in-run.is c.run.ensures.usage

pub returns-in-exec-clause-usage : goal.returns-in-exec-clause-usage
returns-in-exec-clause-usage c = rw c.in-exec.is c.exec.ensures.usage

pub returns-in-selftest-clause-usage : goal.returns-in-selftest-clause-usage
returns-in-selftest-clause-usage c = rw c.in-selftest.is c.selftest.ensures.usage
