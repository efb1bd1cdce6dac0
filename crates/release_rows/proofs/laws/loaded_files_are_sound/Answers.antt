use Rattle.release_rows.proofs.Sound as proof
use Rattle.release_rows.proofs.laws.loaded_files_are_sound.Goals as goal

pub returns : goal.returns
returns c = proof.loaded_files_are_sound c.no_line_feed_inside.ensures c.only_the_last_is_unended.ensures c.endings_are_told_apart.ensures
