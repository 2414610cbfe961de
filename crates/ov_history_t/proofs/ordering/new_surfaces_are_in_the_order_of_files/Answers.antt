use Rattle.ov_history_t.proofs.WantedOrder.{new_sets_are_in_order, new_sets_are_new}
use Rattle.ov_history_t.proofs.WantedOrder.{new_sets_are_wanted}
use Rattle.ov_history_t.proofs.ordering.new_surfaces_are_in_the_order_of_files.Goals as goal

pub returns : goal.returns
returns c = record {
  wanted = new_sets_are_wanted;
  new = new_sets_are_new;
  order = new_sets_are_in_order;
}
