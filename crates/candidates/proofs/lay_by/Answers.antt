-- `candidates::lay_by` meets its contract: each refusal by its test; else each room has its body at the front, and the
-- shortest is written.
-- Assumes nothing.
use Rattle.std.proofs.Common.{◌≡◌, ◌≤◌, true, length, sym, ap, ◌∙◌, arith}
use Rattle.lists.specs.Tab.{over}
use Rattle.little.specs.Little.{write_leaves}
use Rattle.candidates.specs.Calls.{is_ready}
use Rattle.candidates.specs.Measures.{widths_by, entry_by, plain_by, frame_by, steps_by, words_by}
use Rattle.candidates.proofs.Calls.{fronts, block_refuses, room-refuses, by_bad_values, by_bad_rooms, by_no-room, by_done, ready_says, leaves-done}
use Rattle.candidates.proofs.lay_by.Goals as goal
use Rattle.candidates.proofs.lay_by.Goals.{After-entry_by-e, After-widths_by-m, Else-not-is_ready}

pub returns-then-values-ne1024 : goal.returns-then-values-ne1024
returns-then-values-ne1024 c =
    let a = c.args in record { value = by_bad_values a.range a.steps a.values.now a.plain.now a.frame.now a.rest.now a.output.now c.if-values-ne1024.true; plain_after = (block_refuses a.range a.steps a.values.now a.plain.now a.frame.now a.rest.now a.output.now).0; frame_after = (block_refuses a.range a.steps a.values.now a.plain.now a.frame.now a.rest.now a.output.now).1.0; rest_after = (block_refuses a.range a.steps a.values.now a.plain.now a.frame.now a.rest.now a.output.now).1.1.0; output_after = (block_refuses a.range a.steps a.values.now a.plain.now a.frame.now a.rest.now a.output.now).1.1.1 }

pub returns-then-not-is_ready : goal.returns-then-not-is_ready
returns-then-not-is_ready c =
    let a = c.args in record { value = by_bad_rooms a.range a.steps a.values.now a.plain.now a.frame.now a.rest.now a.output.now (omega arith) (sym c.is_ready.ensures ∙ c.if-not-is_ready.true); plain_after = (room-refuses a.range a.steps a.values.now a.plain.now a.frame.now a.rest.now a.output.now).0; frame_after = (room-refuses a.range a.steps a.values.now a.plain.now a.frame.now a.rest.now a.output.now).1.0; rest_after = (room-refuses a.range a.steps a.values.now a.plain.now a.frame.now a.rest.now a.output.now).1.1.0; output_after = (room-refuses a.range a.steps a.values.now a.plain.now a.frame.now a.rest.now a.output.now).1.1.1 }

is-ready : (c : Else-not-is_ready) → is_ready c.args.steps c.args.plain.now c.args.frame.now c.args.rest.now ≡ true
is-ready c = sym c.is_ready.ensures ∙ c.if-not-is_ready.false

long : (c : Else-not-is_ready) → length c.args.values.now ≡ 1024
long c = omega arith

says : (c : Else-not-is_ready) → (length c.args.plain.now ≡ 1024) × ((length c.args.frame.now ≡ 1024) × ((length c.args.rest.now ≡ 1040) × (c.args.steps ≤ 64)))
says c =
    let a = c.args in
    ready_says a.range a.steps a.values.now a.plain.now a.frame.now a.rest.now a.output.now (long c) (is-ready c)

widths : (c : After-widths_by-m) → (c.widths_by-m.result.plain ≤ 64) × ((c.widths_by-m.result.frame ≤ 64) × (c.widths_by-m.result.steps ≤ 64))
unfolding widths_by
widths c = (
  c.widths_by-m.ensures.plain_bound.0,
  (
    c.widths_by-m.ensures.plain_bound.1,
    omega (
      arith,
      ap (λ m. m.steps) c.widths_by-m.ensures.value,
      (let it : (length c.args.plain.now ≡ 1024) × ((length c.args.frame.now ≡ 1024) × ((length c.args.rest.now ≡ 1040) × (c.args.steps ≤ 64))) = let a = c.args in
          ready_says a.range a.steps a.values.now a.plain.now a.frame.now a.rest.now a.output.now (let it : length c.args.values.now ≡ 1024 = omega arith in it) (let it : is_ready c.args.steps c.args.plain.now c.args.frame.now c.args.rest.now ≡ true = sym c.is_ready.ensures ∙ c.if-not-is_ready.false in it) in it).1.1.1,
    ),
  ),
)

-- the entry is the one by the widths
entry-is : (c : After-entry_by-e) → c.entry_by-e.result ≡ entry_by (widths_by c.args.range c.args.steps)
entry-is c = c.entry_by-e.ensures ∙ ap entry_by c.widths_by-m.ensures.value

pub entry_by-e-requires : goal.entry_by-e-requires
entry_by-e-requires c = widths (goal.at.entry_by-e-requires c).After-widths_by-m

pub returns-then-output-e : goal.returns-then-output-e
returns-then-output-e c =
    let a = c.args in record { value = by_no-room a.range a.steps a.values.now a.plain.now a.frame.now a.rest.now a.output.now (long (goal.at.returns-then-output-e c).Else-not-is_ready) (is-ready (goal.at.returns-then-output-e c).Else-not-is_ready) (omega (arith, ap (λ e. e.length) (entry-is (goal.at.returns-then-output-e c).After-entry_by-e))); plain_after = (room-refuses a.range a.steps a.values.now a.plain.now a.frame.now a.rest.now a.output.now).0; frame_after = (room-refuses a.range a.steps a.values.now a.plain.now a.frame.now a.rest.now a.output.now).1.0; rest_after = (room-refuses a.range a.steps a.values.now a.plain.now a.frame.now a.rest.now a.output.now).1.1.0; output_after = (room-refuses a.range a.steps a.values.now a.plain.now a.frame.now a.rest.now a.output.now).1.1.1 }

pub fill_plain-requires : goal.fill_plain-requires
fill_plain-requires c =
    record { width_bound = (widths (goal.at.fill_plain-requires c).After-widths_by-m).0; values_len = long (goal.at.fill_plain-requires c).Else-not-is_ready; width_in_bounds = omega (arith, (widths (goal.at.fill_plain-requires c).After-widths_by-m).0, (says (goal.at.fill_plain-requires c).Else-not-is_ready).0) }

pub fill_frame-requires : goal.fill_frame-requires
fill_frame-requires c =
    record { width_bound = (widths (goal.at.fill_frame-requires c).After-widths_by-m).1.0; values_len = long (goal.at.fill_frame-requires c).Else-not-is_ready; width_in_bounds = omega (arith, (widths (goal.at.fill_frame-requires c).After-widths_by-m).1.0, (says (goal.at.fill_frame-requires c).Else-not-is_ready).1.0) }

pub fill_steps-requires : goal.fill_steps-requires
fill_steps-requires c =
    record { width_bound = (widths (goal.at.fill_steps-requires c).After-widths_by-m).1.1; values_len = long (goal.at.fill_steps-requires c).Else-not-is_ready; width_in_bounds = omega (arith, (widths (goal.at.fill_steps-requires c).After-widths_by-m).1.1, (says (goal.at.fill_steps-requires c).Else-not-is_ready).1.1.0) }

pub write_shortest-requires : goal.write_shortest-requires
write_shortest-requires c =
    let ready = says (goal.at.write_shortest-requires c).Else-not-is_ready in record { plain_bound = widths (goal.at.write_shortest-requires c).After-widths_by-m; plain_in_bounds = omega (arith, (widths (goal.at.write_shortest-requires c).After-widths_by-m).0, ready.0); frame_in_bounds = omega (arith, (widths (goal.at.write_shortest-requires c).After-widths_by-m).1.0, ready.1.0); steps_in_bounds = omega (arith, (widths (goal.at.write_shortest-requires c).After-widths_by-m).1.1, ready.1.1.0) }

pub returns : goal.returns
returns c =
    let a = c.args in
    let values = a.values.now in
    let room : (entry_by (widths_by a.range a.steps)).length ≤ length a.output.now = omega (arith, ap (λ e. e.length) (entry-is (goal.at.returns c).After-entry_by-e), c.if-output-e.false) in record {
      value = by_done a.range a.steps values a.plain.now a.frame.now a.rest.now a.output.now (long (goal.at.returns c).Else-not-is_ready) (is-ready (goal.at.returns c).Else-not-is_ready) room;
      plain_after = (leaves-done a.range a.steps values a.plain.now a.frame.now a.rest.now a.output.now _ _ _ _
          (c.fill_plain.ensures ∙ ap (λ k. over 0 (plain_by k values) a.plain.now) c.widths_by-m.ensures.value)
          (c.fill_frame.ensures ∙ ap (λ k. over 0 (frame_by k values) a.frame.now) c.widths_by-m.ensures.value)
          (c.fill_steps.ensures ∙ ap (λ k. over 0 (steps_by k values) a.rest.now) c.widths_by-m.ensures.value)
          (c.write_shortest.ensures
          ∙ ap (λ x. write_leaves 8 x a.output.now)
          (fronts c.widths_by-m.result values _ _ _ _ _ _ c.fill_plain.ensures c.fill_frame.ensures c.fill_steps.ensures ∙ ap (λ k. words_by k values) c.widths_by-m.ensures.value))
          room).0;
      frame_after = (leaves-done a.range a.steps values a.plain.now a.frame.now a.rest.now a.output.now _ _ _ _
          (c.fill_plain.ensures ∙ ap (λ k. over 0 (plain_by k values) a.plain.now) c.widths_by-m.ensures.value)
          (c.fill_frame.ensures ∙ ap (λ k. over 0 (frame_by k values) a.frame.now) c.widths_by-m.ensures.value)
          (c.fill_steps.ensures ∙ ap (λ k. over 0 (steps_by k values) a.rest.now) c.widths_by-m.ensures.value)
          (c.write_shortest.ensures
          ∙ ap (λ x. write_leaves 8 x a.output.now)
          (fronts c.widths_by-m.result values _ _ _ _ _ _ c.fill_plain.ensures c.fill_frame.ensures c.fill_steps.ensures ∙ ap (λ k. words_by k values) c.widths_by-m.ensures.value))
          room).1.0;
      rest_after = (leaves-done a.range a.steps values a.plain.now a.frame.now a.rest.now a.output.now _ _ _ _
          (c.fill_plain.ensures ∙ ap (λ k. over 0 (plain_by k values) a.plain.now) c.widths_by-m.ensures.value)
          (c.fill_frame.ensures ∙ ap (λ k. over 0 (frame_by k values) a.frame.now) c.widths_by-m.ensures.value)
          (c.fill_steps.ensures ∙ ap (λ k. over 0 (steps_by k values) a.rest.now) c.widths_by-m.ensures.value)
          (c.write_shortest.ensures
          ∙ ap (λ x. write_leaves 8 x a.output.now)
          (fronts c.widths_by-m.result values _ _ _ _ _ _ c.fill_plain.ensures c.fill_frame.ensures c.fill_steps.ensures ∙ ap (λ k. words_by k values) c.widths_by-m.ensures.value))
          room).1.1.0;
      output_after = (leaves-done a.range a.steps values a.plain.now a.frame.now a.rest.now a.output.now _ _ _ _
          (c.fill_plain.ensures ∙ ap (λ k. over 0 (plain_by k values) a.plain.now) c.widths_by-m.ensures.value)
          (c.fill_frame.ensures ∙ ap (λ k. over 0 (frame_by k values) a.frame.now) c.widths_by-m.ensures.value)
          (c.fill_steps.ensures ∙ ap (λ k. over 0 (steps_by k values) a.rest.now) c.widths_by-m.ensures.value)
          (c.write_shortest.ensures
          ∙ ap (λ x. write_leaves 8 x a.output.now)
          (fronts c.widths_by-m.result values _ _ _ _ _ _ c.fill_plain.ensures c.fill_frame.ensures c.fill_steps.ensures ∙ ap (λ k. words_by k values) c.widths_by-m.ensures.value))
          room).1.1.1;
    }
