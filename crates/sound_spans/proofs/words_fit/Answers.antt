-- `sound_spans::words_fit` meets its contract. Assumes nothing.
use Rattle.sound_spans.proofs.words_fit.Goals as goal

pub returns : goal.returns
returns c i = (c.type_inv.bits i).fits
