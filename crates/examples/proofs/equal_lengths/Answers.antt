use Rattle.std.proofs.Common.{refl, ap, ◌∙◌}
use Rattle.page.specs.Layout.{start, page_at}
use Rattle.page.specs.Verdict.{active_of, cover}
use Rattle.flush.specs.Pages.{part, physical_page, physical_pages}
use Rattle.plan.specs.Flush.{flush_plan}
use Rattle.plan.specs.Append.{append_plan}
use Rattle.plan.specs.Sync.{sync_plan}
use Rattle.plan.specs.Open.{scan_row, pages_kept, open_plan}
use Rattle.plan.specs.Truncate.{cut_plan, behind_sync}
use Rattle.examples.proofs.equal_lengths.Goals as goal

pub returns : goal.returns
unfolding start page_at cover part physical_page physical_pages flush_plan append_plan sync_plan scan_row pages_kept open_plan cut_plan behind_sync
returns c = record {
  holds = record {
    capacity = refl;
    first_page = refl;
    grown_page = refl;
    cut_page = (refl, refl, refl);
    five_buffered = (refl, refl);
    six_direct = (refl, refl, refl, refl);
    three_flushed = (refl, refl, refl);
    four_direct = refl;
    equal_lengths = refl;
    too_long = refl;
    zeros_opened = (refl, refl);
  };
  answer = c.active.ensures ∙ ap active_of c.validate_page.ensures;
}
