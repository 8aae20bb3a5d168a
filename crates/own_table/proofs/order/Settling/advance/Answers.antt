use Rattle.std.proofs.Common.{length, Some, refl, sym, ap, ◌∙◌}
use Rattle.std.proofs.lemmas.Option.{slice_get_read}
use Rattle.own_table.specs.Order.{first_unsettled}
use Rattle.own_shapes.specs.Types.{contained}
use Rattle.own_table.proofs.Advance.{last_declared, last_marked, settled_last, settled_less, settled_keeps, part_marked, part_mark, part_circle, opened_part, opened_less, opened_keeps}
use Rattle.own_table.proofs.order.Settling.advance.Goals as goal

pub bounds-types-last : goal.bounds-types-last
bounds-types-last c = last_declared c.args.types.now c.args.self.now c.args.last c.requires.settling

pub settle-requires : goal.settle-requires
settle-requires c = last_marked c.args.types.now c.args.self.now c.args.last c.requires.settling

pub index-requires : goal.index-requires
index-requires c =
    let ts = c.args.types.now in let old = c.args.self.now in let t = c.index-types-last.result in
    let at = slice_get_read ts (length ts) c.args.last t refl (last_declared ts old c.args.last c.requires.settling) c.index-types-last.is in
    let found = ap (λ ms. first_unsettled ms (contained t)) (sym c.as_slice.ensures.value) ∙ sym c.in-Some.ensures in
    part_marked ts old c.args.last c.requires.settling t at c.requires.closed c.in-Some.part found

pub open_below-requires : goal.open_below-requires
open_below-requires c =
    let ts = c.args.types.now in let old = c.args.self.now in let t = c.index-types-last.result in
    let at = slice_get_read ts (length ts) c.args.last t refl (last_declared ts old c.args.last c.requires.settling) c.index-types-last.is in
    let found = ap (λ ms. first_unsettled ms (contained t)) (sym c.as_slice.ensures.value) ∙ sym c.in-Some.ensures in
    part_marked ts old c.args.last c.requires.settling t at c.requires.closed c.in-Some.part found

pub returns-in_default : goal.returns-in_default
returns-in_default c =
    let ts = c.args.types.now in let old = c.args.self.now in let t = c.index-types-last.result in
    let at = slice_get_read ts (length ts) c.args.last t refl (last_declared ts old c.args.last c.requires.settling) c.index-types-last.is in
    let found = ap (λ ms. first_unsettled ms (contained t)) (sym c.as_slice.ensures.value) ∙ sym c.in-Some.ensures in
    let is = part_mark ts old c.args.last c.requires.settling t at c.requires.closed c.in-Some.part found c.index.result.now c.index.ensures in
    record { ok = tt; less = tt; kept = tt; err = part_circle ts old c.args.last c.requires.settling t at c.requires.closed c.in-Some.part found c.index.result.now is c.in_default.not-New }

pub returns-in_ok-settle-in-None-clause-ok : goal.returns-in_ok-settle-in-None-clause-ok
returns-in_ok-settle-in-None-clause-ok c =
    let ts = c.args.types.now in let old = c.args.self.now in let t = c.index-types-last.result in
    let at = slice_get_read ts (length ts) c.args.last t refl (last_declared ts old c.args.last c.requires.settling) c.index-types-last.is in
    let none = ap (λ ms. first_unsettled ms (contained t)) (sym c.as_slice.ensures.value) ∙ sym c.in-None.ensures in
    settled_last ts old c.args.last c.requires.settling c.settle.new.self t at none c.in_ok-settle-in-None.ensures

pub returns-in_ok-settle-in-None-clause-less : goal.returns-in_ok-settle-in-None-clause-less
returns-in_ok-settle-in-None-clause-less c = settled_less c.args.types.now c.args.self.now c.args.last c.requires.settling c.settle.new.self c.in_ok-settle-in-None.ensures

pub returns-in_ok-settle-in-None-clause-kept : goal.returns-in_ok-settle-in-None-clause-kept
returns-in_ok-settle-in-None-clause-kept c = settled_keeps c.args.types.now c.args.self.now c.args.last c.requires.settling c.settle.new.self c.in_ok-settle-in-None.ensures

pub returns-in_ok-open_below-in-New-clause-ok : goal.returns-in_ok-open_below-in-New-clause-ok
returns-in_ok-open_below-in-New-clause-ok c =
    let ts = c.args.types.now in let old = c.args.self.now in let t = c.index-types-last.result in
    let at = slice_get_read ts (length ts) c.args.last t refl (last_declared ts old c.args.last c.requires.settling) c.index-types-last.is in
    let found = ap (λ ms. first_unsettled ms (contained t)) (sym c.as_slice.ensures.value) ∙ sym c.in-Some.ensures in
    opened_part ts old c.args.last c.requires.settling t at c.requires.closed c.in-Some.part found c.open_below.new.self c.in_ok-open_below-in-New.ensures

pub returns-in_ok-open_below-in-New-clause-less : goal.returns-in_ok-open_below-in-New-clause-less
returns-in_ok-open_below-in-New-clause-less c =
    let ts = c.args.types.now in let old = c.args.self.now in let t = c.index-types-last.result in
    let at = slice_get_read ts (length ts) c.args.last t refl (last_declared ts old c.args.last c.requires.settling) c.index-types-last.is in
    let found = ap (λ ms. first_unsettled ms (contained t)) (sym c.as_slice.ensures.value) ∙ sym c.in-Some.ensures in
    let is = part_mark ts old c.args.last c.requires.settling t at c.requires.closed c.in-Some.part found c.index.result.now c.index.ensures in
    opened_less ts old c.args.last c.requires.settling t at c.requires.closed c.in-Some.part found c.open_below.new.self (is ∙ ap (λ m. Some m) c.in-New.is) c.in_ok-open_below-in-New.ensures

pub returns-in_ok-open_below-in-New-clause-kept : goal.returns-in_ok-open_below-in-New-clause-kept
returns-in_ok-open_below-in-New-clause-kept c =
    let ts = c.args.types.now in let old = c.args.self.now in let t = c.index-types-last.result in
    let at = slice_get_read ts (length ts) c.args.last t refl (last_declared ts old c.args.last c.requires.settling) c.index-types-last.is in
    let found = ap (λ ms. first_unsettled ms (contained t)) (sym c.as_slice.ensures.value) ∙ sym c.in-Some.ensures in
    opened_keeps ts old c.args.last c.requires.settling t at c.requires.closed c.in-Some.part found c.open_below.new.self c.in_ok-open_below-in-New.ensures
