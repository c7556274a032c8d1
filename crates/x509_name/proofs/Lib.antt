mod Headers
mod Writing
