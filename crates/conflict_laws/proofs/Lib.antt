mod Standing
mod Following
mod Releasing
mod Answering
