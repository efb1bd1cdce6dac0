mod BesideLemmas
mod FolderLemmas
mod HeldLemmas
mod TransferLemmas
