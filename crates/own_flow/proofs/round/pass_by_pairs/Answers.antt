use Rattle.std.proofs.Common.{inl, inr}
use Rattle.own_flow.proofs.RoundLaws.{passes}
use Rattle.own_flow.proofs.round.pass_by_pairs.Goals as goal

pub returns-clause-passed : goal.returns-clause-passed
returns-clause-passed c = passes c.args.pairs.now c.args.leaves c.args.node c.args.row.now c.add.new.out c.requires.within (λ m.
    let kept = c.leave.ensures.has m in let all = c.add.ensures.has m in (
      λ h. elim (all.0 h) [ inl old ↦ inl (kept.0 old) | inr new ↦ inr new ],
      λ h. all.1 (elim h [ inl old ↦ inl (kept.1 old) | inr new ↦ inr new ]),
    ))
